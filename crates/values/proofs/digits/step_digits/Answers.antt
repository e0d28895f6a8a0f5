-- `step_digits` meets its contract. The loop's invariant is `Pushing`: the order filled so far, and the digits of the columns in it.
-- Assumes nothing.
use Rattle.std.proofs.Common.{arith}
use Rattle.bits.proofs.Filling.{filling_start, filling_end}
use Rattle.values.proofs.Pushing.{Room, pushing_start, pushing_room, pushing_next, pushing_end}
use Rattle.values.proofs.digits.step_digits.Goals.{After-bit-b}
use Rattle.values.proofs.digits.step_digits.Goals as goal

pub loop-k-init : goal.loop-k-init
loop-k-init c =
    pushing_start c.requires.0 c.requires.1.0 c.args.r c.args.held.now c.requires.1.1 c.ones_in-x.result
    (filling_start c.args.d c.args.old c.args.r c.requires.0 c.ones_in-x.result c.ones_in-x.ensures)

room : (c : After-bit-b) → Room c.args.old c.loop-k.held c.loop-k.x c.loop-k.k c.bit-b.result
room c = pushing_room c.requires.0 c.requires.1.0 c.args.r c.loop-k.invariant c.loop-k-test.true c.bit-b.result c.bit-b.ensures

pub overflow_sub-x : goal.overflow_sub-x
overflow_sub-x c = (room c).taken

pub overflow_sub-c : goal.overflow_sub-c
overflow_sub-c c = omega (arith, room c)

pub overflow_add-c : goal.overflow_add-c
overflow_add-c c = omega (arith, room c)

pub bounds-old-x : goal.bounds-old-x
bounds-old-x c = (room c).place

pub overflow_sub-j : goal.overflow_sub-j
overflow_sub-j c = (room c).column_low

pub bounds-held-j : goal.bounds-held-j
bounds-held-j c = omega (arith, room (goal.at.bounds-held-j c).After-bit-b)

pub push-requires : goal.push-requires
push-requires c = omega (arith, room (goal.at.push-requires c).After-bit-b)

pub bounds-held-j-in-loop-k : goal.bounds-held-j-in-loop-k
bounds-held-j-in-loop-k c = omega (arith, room (goal.at.bounds-held-j-in-loop-k c).After-bit-b)

pub loop-k-preserved : goal.loop-k-preserved
loop-k-preserved c =
    pushing_next c.requires.0 c.requires.1.0 c.args.r c.loop-k.invariant c.loop-k-test.true c.bit-b.result c.bit-b.ensures
    c.push.result c.push.ensures

pub returns : goal.returns
returns c = (
  filling_end c.args.d c.args.old c.args.r c.requires.0 c.loop-k.invariant.filling (omega arith),
  pushing_end c.requires.0 c.requires.1.0 c.args.r c.loop-k.invariant (omega arith),
)
