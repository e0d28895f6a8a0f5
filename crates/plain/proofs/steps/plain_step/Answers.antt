-- `plain::steps::plain_step` meets its contract. The loop's invariant is `Summing`: the registers of the additions that are left, behind
-- those that are made, are the step's.
-- Assumes nothing.
use Rattle.std.proofs.Common.{arith}
use Rattle.plain.proofs.Stepping.{summing_start, summing_left, summing_next}
use Rattle.plain.proofs.steps.plain_step.Goals as goal

pub loop-k-init : goal.loop-k-init
loop-k-init c =
    summing_start c.requires.0 c.args.r c.args.new.now c.requires.1 _ c.ones_in-x.ensures c.add.result c.add.ensures

pub loop-k-preserved : goal.loop-k-preserved
loop-k-preserved c =
    let s = c.loop-k.invariant in
    summing_next c.requires.0 c.args.r s c.loop-k-test.true _ (omega (arith, c.bit.ensures, summing_left c.requires.0 c.args.r s c.loop-k-test.true))
    c.add-in-loop-k.result c.add-in-loop-k.ensures
