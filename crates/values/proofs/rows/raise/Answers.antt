-- `raise` meets its contract: the values before j are done, the others are as they came.
-- Assumes nothing.
use Rattle.std.proofs.Common.{arith}
use Rattle.values.proofs.Raising.{raising_starts, raising_room, raising_next, raising_ends}
use Rattle.values.proofs.rows.raise.Goals as goal

pub loop-j-init : goal.loop-j-init
loop-j-init c =
    let a = c.args in
    raising_starts a.d a.k a.above a.values.now c.requires (λ i. (c.type_inv.values i).fits)

pub raise_one-requires : goal.raise_one-requires
raise_one-requires c = raising_room c.loop-j.invariant (omega arith)

pub loop-j-preserved : goal.loop-j-preserved
loop-j-preserved c = raising_next c.loop-j.invariant (omega arith) _ c.raise_one.ensures

pub returns : goal.returns
returns c = raising_ends c.loop-j.invariant (omega arith)
