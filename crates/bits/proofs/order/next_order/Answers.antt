-- `next_order` meets its contract. The loop's invariant is `Filling`: the rest of the order, written
-- behind what is there, makes the whole.
-- Assumes nothing.
use Rattle.bits.proofs.Filling.{filling_next}
use Rattle.bits.proofs.order.next_order.Goals as goal

pub loop-k-preserved : goal.loop-k-preserved
loop-k-preserved c =
    let a = c.args in
    filling_next a.d a.old a.r c.requires c.loop-k.invariant c.loop-k-test.true _ c.bit-b.ensures
