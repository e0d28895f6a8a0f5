-- No second answer fits step's promise: from the promise alone.
-- Assumes nothing.
use Prim.Native.Nat.{ℕ}
use mathlib.Core.Path.{◌≡◌, sym, ap, ap₂, ◌∙◌}
use native.Mathlib.Omega.{arith}
use Rattle.std.specs.Prelude.{Result, Ok, Err}
use Rattle.ladder.specs.Walk as rules
use Rattle.ladder.proofs.Tests.{refusing-same}
use Rattle.refusal.proofs.Laws.{number_positive, same_refusal}
use Rattle.walk.specs.declared.state.Walk.{Walk}
use Rattle.walk.specs.declared.step.Unstepped.{Unstepped}
use Rattle.walk.specs.Stepped.{step_number, walk_answered}
use Rattle.walk.specs.WalkState.{walk_state}
use Rattle.walk.specs.Promise.{StepPromise}

-- The code's walk state, from the rules'.
held : rules.Walk → Walk
held w = record { d = w.d; order = w.order; signs = w.signs }

-- A walk state of the code is known by what the rules have of it.
pub same-walk : (w v : Walk) → walk_state w ≡ walk_state v → w ≡ v
unfolding walk_state held
same-walk w v e = ap held e

-- Two refusals and states that step could give on the same input are equal.
pub step_unique : {w : Walk} {bits m n : ℕ} {u v : Walk} → StepPromise w bits m u → StepPromise w bits n v → (m ≡ n) × (u ≡ v)
step_unique {u} {v} x y =
    let same = x.refusal_is ∙ sym y.refusal_is in
    (same, same-walk u v (refusing-same _ _ same x.walk_is y.walk_is))

-- And what step answers is known by its number and its state.
pub same_step : (r s : Result Walk Unstepped) → step_number r ≡ step_number s → walk_answered r ≡ walk_answered s → r ≡ s
same_step (Ok a) (Ok b) n w = ap Ok w
same_step (Ok a) (Err f) n w = absurd (omega (arith, number_positive f.refusal))
same_step (Err e) (Ok b) n w = absurd (omega (arith, number_positive e.refusal))
same_step (Err e) (Err f) n w = ap₂ (λ refusal walk. Err (record { refusal = refusal; walk = walk })) (same_refusal e.refusal f.refusal n) w
