-- What a step answers: its number, and the walk state, which stands in an `Err` too. The promise says what these two are, on all input.
-- Assumes nothing.
use Rattle.std.specs.Prelude.{ℕ, Result, Ok, Err}
use Rattle.refusal.specs.Answers.{number}
use Rattle.walk.specs.declared.state.Walk.{Walk}
use Rattle.walk.specs.declared.step.Unstepped.{Unstepped}

-- 0, that is OK, where nothing is refused.
abbrev pub step_number : Result Walk Unstepped → ℕ
step_number (Ok next) = 0
step_number (Err unstepped) = number unstepped.refusal

-- The next state; where the step refuses, the state that it hands back.
abbrev pub walk_answered : Result Walk Unstepped → Walk
walk_answered (Ok next) = next
walk_answered (Err unstepped) = unstepped.walk
