-- `write_block` meets its contract. The loop's invariant is `Walked`: the new order, the new signs and the entries written so far.
-- Assumes nothing.
use Rattle.walk.specs.WalkState.{walk_state}
use Rattle.trace.proofs.StepBlocks.{Walked}
use Rattle.trace.proofs.block.write_block.Given as goal

abbrev pub invariant-loop-k : goal.invariant-loop-k
invariant-loop-k l = Walked (walk_state l.w) l.r l.out l.vector l.order l.signs l.x l.k
