-- `write_block` meets its contract. The loop's invariant is `Walked`: the new order, the new signs and the entries written so far.
-- Assumes nothing.
use Prim.Native.Nat.{◌≤◌}
use mathlib.Core.Path.{◌≡◌, ap}
use native.Mathlib.Omega.{arith}
use lib.ListN.{length, set}
use Rattle.walk.specs.WalkState.{walk_state}
use Rattle.bits.proofs.Moving.{moving_reads}
use Rattle.bits.proofs.SmallSigns.{unit_kept, unit_turned}
use Rattle.bits.proofs.StepBits.{ones_room}
use Rattle.trace.proofs.StepBlocks.{walked_start, walked_rows, walked_next, walked_end, first_place, entry_place}
use borrow.Author.Rules.{rules}
use Rattle.trace.proofs.block.write_block.Goals.{After-bit-b, then-b-eq1, else-b-eq1}
use Rattle.trace.proofs.block.write_block.Goals as goal

pub write_entry-requires : goal.write_entry-requires
unfolding walk_state
write_entry-requires c =
    let most : c.ones_in-x.result ≤ 8 =
    omega (arith, c.ones_in-x.ensures, c.requires.0.high, ones_room c.args.w.d c.args.r 0 (omega arith)) in
    (c.requires.0.high, (most, (most, first_place c.args.w.d _ c.requires.1)))

pub loop-k-init : goal.loop-k-init
unfolding walk_state
loop-k-init c = walked_start c.requires.0 c.args.r _ c.requires.1 _ c.ones_in-x.ensures _ c.write_entry.auto.out c.write_entry.ensures

pub write_entry-requires-in-loop-k : goal.write_entry-requires-in-loop-k
unfolding walk_state
write_entry-requires-in-loop-k c =
    let inside = walked_rows c.requires.0 _ c.loop-k.invariant c.loop-k-test.true _ c.bit-b.ensures in
    let high = c.requires.0.high in (
      high,
      (
        omega (arith, inside, high),
        (
          omega (arith, inside, high),
          (entry_place c.args.w.d _ _ _ c.loop-k-test.true c.loop-k.invariant.whole (omega arith)).1,
        ),
      ),
    )

pub loop-k-preserved : goal.loop-k-preserved
unfolding walk_state
loop-k-preserved c =
    let r = moving_reads c.requires.0 _ c.loop-k.invariant.moving c.loop-k-test.true _ c.bit-b.ensures in
    let next = walked_next c.requires.0 c.args.r c.loop-k.invariant c.loop-k-test.true
    c.bit-b.result c.bit-b.ensures _ (ap (set c.loop-k.vector _) (unit_kept _ r.unit)) in
    let kept = c.write_entry-in-loop-k.auto.out in
    let wrote = c.write_entry-in-loop-k.ensures in
    elim c.if-b-eq1.branch [
      | then-b-eq1 w ↦
          rw w.signs-is (next 1 w.if-b-eq1.true _ (unit_turned _ r.unit) _ _ (omega arith) (omega arith) _ kept wrote)
      | else-b-eq1 w ↦
          rw w.signs-is
          (next 0 (omega (arith, r.place, w.if-b-eq1.false)) _ (unit_kept _ r.unit) _ _ (omega arith) (omega arith) _ kept wrote)
    ]

pub returns : goal.returns
unfolding walk_state
returns c =
    let eight : length c.args.w.signs ≡ 8 = search rules in
    walked_end c.requires.0 c.args.r c.loop-k.invariant (search rules) eight
