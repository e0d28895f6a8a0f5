-- What follows from the listing's promise alone.
-- Assumes nothing.
use Prim.Native.Nat.{ℕ, zero, suc, ◌≤◌}
use mathlib.Core.Path.{◌≡◌, sym, ap, subst, ◌∙◌}
use mathlib.Core.Logic.{◌≢◌, ◌↔◌}
use mathlib.Core.List.{List, ◌++◌}
use native.Mathlib.Omega.{arith}
use lib.ListN.{length, take, drop, length-append}
use lib.Seq.{take_at}
use Rattle.ladder.specs.PlanFile.{plan_in}
use Rattle.ladder.specs.Refusals.{refusing}
use Rattle.ladder.specs.Listing.{plan_text}
use Rattle.ladder.proofs.Tests.{refusing_no, refusing_yes}
use Rattle.ladder.proofs.Operations.{ListingOk, listing_none}
use Rattle.listing.specs.Promise.{ListingPromise}

module _ {file text : List ℕ} {refusal size : ℕ} {textAfter : List ℕ} (promise : ListingPromise file text refusal size textAfter) where
  -- The refusal is 0 exactly where the file and the buffer are what the listing asks ..
  pub listing_accepts : refusal ≡ 0 ↔ ListingOk file text
  listing_accepts = subst (λ n. n ≡ 0 ↔ ListingOk file text) (sym promise.refusal_is) (listing_none file text)

  -- .. then the lines of the file's plan stand at the buffer's start ..
  pub listing_text_lem : ListingOk file text
      → (refusal ≡ 0) × (size ≡ length (plan_text (plan_in file))) × (take size textAfter ≡ plan_text (plan_in file))
  listing_text_lem ok =
      let none = listing_accepts.1 ok in
      let long = promise.length_is ∙ refusing_no _ _ _ none in
      (none, long, ap (take size) (promise.text_is ∙ refusing_no _ _ _ none) ∙ take_at (plan_text (plan_in file)) _ size (sym long))

  -- .. on refusal the length is 0 and the buffer as it came ..
  pub listing_refused : refusal ≢ 0 → (size ≡ 0) × (textAfter ≡ text)
  listing_refused some = (promise.length_is ∙ refusing_yes _ _ _ some, promise.text_is ∙ refusing_yes _ _ _ some)

  -- .. and the length is never more than the buffer's.
  pub listing_inside : size ≤ length textAfter
  unfolding refusing
  listing_inside = rw (promise.length_is, promise.text_is) (inside refusal)
    where
      lines : List ℕ
      lines = plan_text (plan_in file)

      inside : (n : ℕ) → refusing n 0 (length lines) ≤ length (refusing n text (lines ++ drop (length lines) text))
      inside zero = omega (arith, length-append lines (drop (length lines) text))
      inside (suc n) = omega arith
