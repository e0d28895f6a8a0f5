-- `columns_above` meets its contract: the counts so far are those of the places passed.
-- Assumes nothing.
use Rattle.std.proofs.Common.{◌<◌, ◌-◌, get_or, arith, get_or-take, length-take}
use Rattle.values.proofs.Above.{above_few, above_next, above_none}
use Rattle.values.proofs.rows.columns_above.Goals as goal

pub loop-column-init : goal.loop-column-init
loop-column-init c = above_none c.args.order

pub overflow_add-above : goal.overflow_add-above
overflow_add-above c =
    let o = c.args.order in
    let i = c.loop-column.column-index in
    let h : i < c.args.row = omega (arith, length-take c.args.row o) in
    let few = above_few o c.loop-column.above i (get_or o i 0 - 1) c.loop-column.invariant (omega (arith, c.requires.1 i h)) in
    rw get_or-take (omega (arith, few, length-take c.args.row o))

pub loop-column-preserved : goal.loop-column-preserved
loop-column-preserved c =
    let i = c.loop-column.column-index in
    let h : i < c.args.row = omega (arith, length-take c.args.row c.args.order) in
    rw get_or-take (above_next c.args.order c.loop-column.above i c.loop-column.invariant (c.requires.1 i h).0 (c.requires.1 i h).1)
