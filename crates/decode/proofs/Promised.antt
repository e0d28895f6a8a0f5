-- What follows from decode's promise alone.
-- Assumes nothing.
use Prim.Native.Nat.{ℕ}
use mathlib.Core.Path.{◌≡◌, sym, subst, ◌∙◌}
use mathlib.Core.Logic.{◌≢◌, ◌↔◌}
use mathlib.Core.List.{List}
use Rattle.ladder.specs.Plan.{Plan, values_in}
use Rattle.ladder.proofs.Tests.{refusing_no, refusing_yes}
use Rattle.ladder.proofs.Operations.{DecodeOk, decode_none}
use Rattle.decode.specs.Promise.{DecodePromise}

module _ {p : Plan} {values : List ℕ} {r : ℕ} {valuesAfter : List ℕ} (promise : DecodePromise p values r valuesAfter) where
  -- Decode's refusal is 0 exactly where the plan and the buffers are what it asks ..
  pub decode_accepts : r ≡ 0 ↔ DecodeOk p values
  decode_accepts = subst (λ n. n ≡ 0 ↔ DecodeOk p values) (sym promise.refusal_is) (decode_none p values)

  -- .. then the refusal is 0 and the values are the words of the answer row ..
  pub decode_accepted : DecodeOk p values → (r ≡ 0) × (valuesAfter ≡ values_in p)
  decode_accepted ok =
      let none = decode_accepts.1 ok in
      (none, promise.values_are ∙ refusing_no _ _ _ none)

  -- .. and on refusal they are as they came.
  pub decode_refused : r ≢ 0 → valuesAfter ≡ values
  decode_refused some = promise.values_are ∙ refusing_yes _ _ _ some
