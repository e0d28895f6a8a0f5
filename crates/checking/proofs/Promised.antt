-- What follows from check's promise alone, for a crate above to cite.
-- Assumes nothing.
use Prim.Native.Nat.{ℕ, ◌^◌, ◌<◌}
use mathlib.Core.Path.{◌≡◌, sym, ap, subst, ◌∙◌}
use mathlib.Core.Logic.{◌≢◌, ◌↔◌}
use mathlib.Core.Bool.{Bool, true, false}
use mathlib.Core.List.{List}
use native.Mathlib.Omega.{arith}
use lib.ListN.{get_or}
use Rattle.ladder.specs.Plan.{Plan, answer_row}
use Rattle.ladder.specs.Refusals.{scalars_in}
use Rattle.ladder.proofs.Tests.{says_true, refusing_no, refusing_yes}
use Rattle.ladder.proofs.FileRefusals.{same_numbers_says}
use Rattle.ladder.proofs.Operations.{CheckOk, check_none}
use Rattle.checking.specs.Promise.{CheckPromise}
use Rattle.checking.proofs.Equality.{lists_same}

-- ---- refused or not

module _ {p : Plan} {scalars : List ℕ} {refusal : ℕ} {yes : Bool} (promise : CheckPromise p scalars refusal yes) where
  -- Check's refusal is 0 exactly where the plan, the scalars and the buffers are what it asks ..
  pub check_accepts : refusal ≡ 0 ↔ CheckOk p scalars
  check_accepts = subst (λ n. n ≡ 0 ↔ CheckOk p scalars) (sym promise.refusal_is) (check_none p scalars)

  -- .. then the refusal is 0 and it says yes exactly where the answer row is the scalars ..
  pub check_accepted : CheckOk p scalars → (refusal ≡ 0) × (yes ≡ true ↔ answer_row p ≡ scalars_in p.d p.l scalars)
  check_accepted ok =
      let none = check_accepts.1 ok in
      let said = promise.yes_is ∙ refusing_no _ _ _ none in
      let test = same_numbers_says (answer_row p) (scalars_in p.d p.l scalars) in (
        none,
        (λ e. says_true test (sym said ∙ e), λ e. said ∙ sym (lists_same (answer_row p) (scalars_in p.d p.l scalars) e)),
      )

  -- .. an entry of 2^l equals none ..
  pub check_full : CheckOk p scalars → (j : ℕ) → j < p.d → get_or (answer_row p) j 0 ≡ 2 ^ p.l → yes ≡ true → ⊥
  check_full ok j h full said =
      let same = (check_accepted ok).1.0 said in
      omega (arith, ok.fit j h, ap (λ ns. get_or ns j 0) same)

  -- .. and on refusal it says no.
  pub check_refused : refusal ≢ 0 → yes ≡ false
  check_refused some = promise.yes_is ∙ refusing_yes _ _ _ some
