-- Step's promise is kept on refusal and on a step.
-- Assumes nothing.
use Rattle.std.proofs.Common.{◌≡◌, ℕ, ◌∙◌}
use Rattle.ladder.specs.Walk.{step_walk}
use Rattle.ladder.specs.Refusals.{step_refusal}
use Rattle.refusal.specs.declared.Refusal.{Refusal}
use Rattle.refusal.specs.Answers.{number}
use Rattle.refusal.proofs.Laws.{refused, accepted}
use Rattle.walk.specs.declared.state.Walk.{Walk}
use Rattle.walk.specs.WalkState.{walk_state}
use Rattle.walk.specs.Promise.{StepPromise}

module _ (w : Walk) (bits : ℕ) where
  -- What refuses hands the state back ..
  pub kept_refused : (e : Refusal) → number e ≡ step_refusal (walk_state w) bits → StepPromise w bits (number e) w
  kept_refused e judged = record {
    refusal_is = judged;
    walk_is = refused e _ _;
  }

  -- .. else the answer is the next.
  pub kept_accepted : (v : Walk) → 0 ≡ step_refusal (walk_state w) bits → walk_state v ≡ step_walk (walk_state w) bits → StepPromise w bits 0 v
  kept_accepted v judged stepped = record {
    refusal_is = judged;
    walk_is = stepped ∙ accepted _ _;
  }
