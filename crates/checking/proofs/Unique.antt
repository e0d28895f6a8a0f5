-- No second answer fits check's promise: from the promise alone.
-- Assumes nothing.
use Prim.Native.Nat.{ℕ}
use mathlib.Core.Path.{◌≡◌, sym, ◌∙◌}
use mathlib.Core.Bool.{Bool}
use mathlib.Core.List.{List}
use Rattle.ladder.specs.Plan.{Plan}
use Rattle.ladder.proofs.Tests.{refusing-same}
use Rattle.checking.specs.Promise.{CheckPromise}

-- Two refusals and answers that check could give on the same input are equal.
pub check_unique : {p : Plan} {scalars : List ℕ} {m n : ℕ} {said other : Bool} → CheckPromise p scalars m said → CheckPromise p scalars n other
    → (m ≡ n) × (said ≡ other)
check_unique x y =
    let same = x.refusal_is ∙ sym y.refusal_is in
    (same, refusing-same _ _ same x.yes_is y.yes_is)
