-- `advance` meets its contract: the two arrays are those of the walk's step (`next_is`).
-- Assumes nothing.
use mathlib.Core.Path.{sym, subst}
use Rattle.ladder.specs.Walk.{bits_of}
use Rattle.bits.specs.Ready.{Columns}
use Rattle.walk.specs.WalkState.{walk_state}
use Rattle.ladder.proofs.Walk.{length-bits_of}
use Rattle.bits.proofs.Stepping.{columns_step, next_is}
use Rattle.walk.proofs.advance.advance.Goals as goal

pub next_order-order-requires : goal.next_order-order-requires
unfolding walk_state
next_order-order-requires c = c.requires.high

pub next_signs-signs-requires : goal.next_signs-signs-requires
unfolding walk_state
next_signs-signs-requires c =
    let p = c.requires in
    let w = c.args.w in
    let r = c.args.r in
    let columns = columns_step p.order (bits_of w.d r) (length-bits_of w.d r) _ in
    (p.high, (subst (Columns w.d) (sym c.next_order-order.ensures) columns, p.signs))

pub returns : goal.returns
unfolding walk_state
returns c =
    next_is c.requires c.args.r _ _ c.next_order-order.ensures
    c.next_signs-signs.ensures
