-- `next_signs` meets its contract. The loop's invariant is `Turning`: the columns at the places passed have their new signs.
-- Assumes nothing.
use mathlib.Core.Path.{◌≡◌, ◌∙◌, sym}
use native.Mathlib.Omega.{arith}
use lib.ListN.{get_or}
use Rattle.ladder.specs.Walk.{bits_of}
use Rattle.bits.proofs.SmallSigns.{unit_kept, unit_turned}
use Rattle.bits.proofs.StepBits.{bit_below}
use Rattle.bits.proofs.Turning.{unit_at, turning_next}
use Rattle.bits.proofs.signs.next_signs.Goals.{then-bit-eq1, else-bit-eq1}
use Rattle.bits.proofs.signs.next_signs.Goals as goal

pub loop-k-preserved : goal.loop-k-preserved
loop-k-preserved c =
    let a = c.args in
    let p = c.requires in
    let h = c.loop-k-test.true in
    let u = unit_at p.1.0 a.signs p.1.1 c.loop-k.k h in
    let next = turning_next p.0 p.1.0 a.signs a.r c.loop-k.invariant h in
    elim c.if-bit-eq1.branch [
      | then-bit-eq1 w ↦ rw w.new-is (next 1 (sym c.bit.ensures ∙ w.if-bit-eq1.true) _ (unit_turned _ u))
      | else-bit-eq1 w ↦
          let zero : get_or (bits_of a.d a.r) c.loop-k.k 0 ≡ 0 = omega (arith, bit_below a.d a.r c.loop-k.k, w.if-bit-eq1.false) in
          rw w.new-is (next 0 zero _ (unit_kept _ u))
    ]
