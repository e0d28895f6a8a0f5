-- A step keeps d, refused or not, so that the order and the signs after it are all of the next state.
-- Assumes nothing.
use Prim.Native.Nat.{ℕ, zero, suc}
use mathlib.Core.Path.{◌≡◌, refl, sym, ap, ◌∙◌}
use mathlib.Core.List.{List}
use lib.IntN.{ℤ}
use Rattle.ladder.specs.Walk as rules
use Rattle.ladder.specs.Walk.{step_walk, walk_of}
use Rattle.ladder.specs.Refusals.{refusing}
use Rattle.walk.specs.declared.state.Walk.{Walk}
use Rattle.walk.specs.WalkState.{walk_state}
use Rattle.walk.specs.Promise.{StepPromise}
use Rattle.capi.specs.Answers.{walk}

-- Either state that a step can leave has the d that came.
d_kept : (refusal : ℕ) (w : rules.Walk) (bits : ℕ) → (refusing refusal w (step_walk w bits)).d ≡ w.d
unfolding refusing step_walk walk_of
d_kept zero w bits = refl
d_kept (suc n) w bits = refl

-- So what a step promises of its answer it promises of the order and the signs beside the d that came.
pub in_place : {d : ℕ} {order : List ℕ} {signs : List ℤ} {bits refusal : ℕ} {next : Walk}
    → StepPromise (walk d order signs) bits refusal next
    → StepPromise (walk d order signs) bits refusal (walk d next.order next.signs)
unfolding walk_state
in_place {d} {order} {signs} {bits} {refusal} {next} x =
    let same : next.d ≡ d = ap (λ w. w.d) x.walk_is ∙ d_kept refusal (walk_state (walk d order signs)) bits in
    record {
      refusal_is = x.refusal_is;
      walk_is = ap (λ k. walk_state (walk k next.order next.signs)) (sym same) ∙ x.walk_is;
    }
