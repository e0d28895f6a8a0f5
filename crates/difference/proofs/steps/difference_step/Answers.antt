-- `difference_step` meets its contract. The loop's invariant is `Stepping`: the new order, the new signs and the new registers, each as a loop
-- of its own makes them.
-- Assumes nothing.
use Rattle.std.proofs.Common.{◌≡◌, length, set, ap, arith, ◌∙◌, rules}
use Rattle.walk.specs.WalkState.{walk_state}
use Rattle.bits.proofs.SmallSigns.{unit_kept, unit_fits, unit_turned}
use Rattle.bits.proofs.Moving.{Reads, moving_reads}
use Rattle.difference.proofs.Stepping.{stepping_start, stepping_asks, stepping_next, stepping_end}
use Rattle.difference.proofs.steps.difference_step.Goals.{then-b-eq1, else-b-eq1, After-bit-b}
use Rattle.difference.proofs.steps.difference_step.Goals as goal

-- What the place reads.
read : (c : After-bit-b) → let w = c.args.w in Reads w.d w.order w.signs c.loop-k.x c.loop-k.k c.bit-b.result
unfolding walk_state
read c = moving_reads c.requires.ready _ c.loop-k.invariant.moving c.loop-k-test.true _ c.bit-b.ensures

pub loop-k-init : goal.loop-k-init
unfolding walk_state
loop-k-init c = stepping_start c.requires c.args.r _ c.ones_in-x.ensures c.add.result c.add.ensures

pub overflow_sub-x : goal.overflow_sub-x
overflow_sub-x c = (read c).place.0

pub overflow_sub-c : goal.overflow_sub-c
overflow_sub-c c = omega (arith, (read c).place)

pub overflow_add-c : goal.overflow_add-c
overflow_add-c c = omega (arith, (read c).place)

pub bounds-places-x : goal.bounds-places-x
bounds-places-x c = omega (arith, (read c).place)

pub overflow_sub-j : goal.overflow_sub-j
overflow_sub-j c = (read c).column.0

pub bounds-before-j : goal.bounds-before-j
bounds-before-j c = omega (arith, (read c).column, (read c).place)

pub bounds-vector-j : goal.bounds-vector-j
bounds-vector-j c = let r = read (goal.at.bounds-vector-j c).After-bit-b in omega (arith, r.column, r.place)

pub overflow_sub-signs : goal.overflow_sub-signs
overflow_sub-signs c = unit_fits _ (read (goal.at.overflow_sub-signs c).After-bit-b).unit

pub bounds-signs-j : goal.bounds-signs-j
bounds-signs-j c = let r = read (goal.at.bounds-signs-j c).After-bit-b in omega (arith, r.column, r.place)

pub offset_bounds-old-x-in-loop-k : goal.offset_bounds-old-x-in-loop-k
offset_bounds-old-x-in-loop-k c = omega (arith, (read (goal.at.offset_bounds-old-x-in-loop-k c).After-bit-b).place)

pub bounds-old-x-in-loop-k : goal.bounds-old-x-in-loop-k
unfolding walk_state
bounds-old-x-in-loop-k c = omega (arith, c.requires.rows, (read (goal.at.bounds-old-x-in-loop-k c).After-bit-b).place)

pub difference_add-requires : goal.difference_add-requires
unfolding walk_state
difference_add-requires c =
    stepping_asks c.loop-k.invariant c.loop-k-test.true c.bit-b.result c.bit-b.ensures
    _ (ap (set c.loop-k.vector _) (unit_kept _ (read (goal.at.difference_add-requires c).After-bit-b).unit))

pub loop-k-preserved : goal.loop-k-preserved
unfolding walk_state
loop-k-preserved c =
    let r = read (goal.at.loop-k-preserved c).After-bit-b in
    let next =
    stepping_next c.loop-k.invariant c.loop-k-test.true c.bit-b.result c.bit-b.ensures
    _ (ap (set c.loop-k.vector _) (unit_kept _ r.unit)) in
    elim c.if-b-eq1.branch [
      | then-b-eq1 w ↦ next 1 w.if-b-eq1.true _ (w.signs-is ∙ unit_turned _ r.unit) _ c.difference_add.ensures
      | else-b-eq1 w ↦
          next 0 (omega (arith, r.place, w.if-b-eq1.false)) _ (w.signs-is ∙ unit_kept _ r.unit) _
          c.difference_add.ensures
    ]

pub returns : goal.returns
unfolding walk_state
returns c =
    let eight : length c.args.w.signs ≡ 8 = search rules in
    stepping_end c.loop-k.invariant (search rules) eight
