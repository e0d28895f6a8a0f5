-- `difference_steps` meets its contract. The loop's invariant is `DifferenceRunning`: the walk and the registers are those after the steps taken.
-- Assumes nothing.
use Rattle.walk.specs.WalkState.{walk_state}
use Rattle.difference.proofs.Running.{DifferenceRunning}
use Rattle.difference.proofs.steps.difference_steps.Given as goal

abbrev pub invariant-loop-s : goal.invariant-loop-s
invariant-loop-s l = DifferenceRunning l.m (walk_state l.initial.walk) l.l l.bits l.elements l.initial.words (walk_state l.walk) l.words l.s
