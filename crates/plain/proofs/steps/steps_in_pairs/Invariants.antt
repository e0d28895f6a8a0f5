-- `plain::steps::steps_in_pairs` meets its contract. The loop's invariant is `PlainRunning`: the registers are those after the steps so far.
-- Assumes nothing.
use Rattle.std.proofs.Common.{◌≡◌, ◌*◌, suc, length}
use Rattle.plain.proofs.Stepping.{PlainRunning}
use Rattle.plain.proofs.steps.steps_in_pairs.Given as goal

abbrev pub invariant-loop-pair : goal.invariant-loop-pair
invariant-loop-pair l = PlainRunning l.m l.d l.l l.bits l.initial.regs l.regs (2 * l.pair) × (length l.other ≡ suc l.d)
