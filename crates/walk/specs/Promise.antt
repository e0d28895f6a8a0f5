-- What step promises, on all input: the refusal of the table, and the walk state.
-- Assumes nothing.
use Rattle.std.specs.Prelude.{ℕ, ◌≡◌}
use Rattle.ladder.specs.Walk.{step_walk}
use Rattle.ladder.specs.Refusals.{refusing, step_refusal}
use Rattle.walk.specs.declared.state.Walk.{Walk}
use Rattle.walk.specs.WalkState.{walk_state}

-- Step, of the walk state w with the bits as one number: the next state; on refusal the state as it was, all 17 fields. With d 2, order
-- 2 1 and signs -1, +1 the number 1 gives refusal 0, order 1 2 and signs -1, -1; the number 4 gives refusal 3.
pub record StepPromise (w : Walk) (bits refusal : ℕ) (walkAfter : Walk) : Type 0 where
  pub refusal_is : refusal ≡ step_refusal (walk_state w) bits
  pub walk_is : walk_state walkAfter ≡ refusing refusal (walk_state w) (step_walk (walk_state w) bits)
