-- `plain::steps::steps_in_pairs` meets its contract. The loop's invariant is `PlainRunning`: the registers are those after the steps so far.
-- Assumes nothing.
use Rattle.std.proofs.Common.{◌+◌, ◌*◌, ◌∙◌, arith}
use Rattle.plain.proofs.Stepping.{running_start, bits_there, stepped, running_pair, running_last}
use Rattle.plain.proofs.steps.steps_in_pairs.Goals as goal

pub loop-pair-init : goal.loop-pair-init
loop-pair-init c = let p = c.requires in (running_start p.0, p.1)

pub step_bits-requires : goal.step_bits-requires
step_bits-requires c = bits_there c.requires.0 (2 * c.loop-pair.pair) (omega arith)

pub step_bits-requires-in-loop-pair : goal.step_bits-requires-in-loop-pair
step_bits-requires-in-loop-pair c = bits_there c.requires.0 (2 * c.loop-pair.pair + 1) (omega arith)

pub loop-pair-preserved : goal.loop-pair-preserved
loop-pair-preserved c =
    let i = c.loop-pair.invariant.0 in (
      running_pair i (omega arith) c.step_bits.ensures c.step_bits-in-loop-pair.ensures c.plain_step.ensures
          c.plain_step-in-loop-pair.ensures _ (omega arith),
      (stepped i.step _ _ c.plain_step.ensures).rows,
    )

pub step_bits-requires-then-last-l : goal.step_bits-requires-then-last-l
step_bits-requires-then-last-l c = bits_there c.requires.0 _ (omega arith)

pub returns-then-last-l : goal.returns-then-last-l
returns-then-last-l c S =
    c.copy_from_slice.ensures.after
    ∙ running_last c.loop-pair.invariant.0 (omega arith) _ (omega arith) c.step_bits-then-last-l.ensures c.plain_step-then-last-l.ensures S
