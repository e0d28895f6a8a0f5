-- No second answer fits decode's promise: from the promise alone.
-- Assumes nothing.
use Prim.Native.Nat.{ℕ}
use mathlib.Core.Path.{◌≡◌, sym, ◌∙◌}
use mathlib.Core.List.{List}
use Rattle.ladder.specs.Plan.{Plan}
use Rattle.ladder.proofs.Tests.{refusing-same}
use Rattle.decode.specs.Promise.{DecodePromise}

-- Two refusals with two outputs that decode could answer and leave on the same input are equal.
pub decode_unique : {p : Plan} {values : List ℕ} {r s : ℕ} {valuesAfter valuesOther : List ℕ}
    → DecodePromise p values r valuesAfter → DecodePromise p values s valuesOther → (r ≡ s) × (valuesAfter ≡ valuesOther)
decode_unique x y =
    let n = x.refusal_is ∙ sym y.refusal_is in
    (n, refusing-same _ _ n x.values_are y.values_are)
