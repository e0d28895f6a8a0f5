-- `next_order` meets its contract. The loop's invariant is `Filling`: the rest of the order, written
-- behind what is there, makes the whole.
-- Assumes nothing.
use Rattle.bits.proofs.Filling.{Filling}
use Rattle.bits.proofs.order.next_order.Given as goal

abbrev pub invariant-loop-k : goal.invariant-loop-k
invariant-loop-k l = Filling l.d l.old l.r l.new l.x l.k
