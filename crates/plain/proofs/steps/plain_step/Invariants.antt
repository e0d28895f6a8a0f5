-- `plain::steps::plain_step` meets its contract. The loop's invariant is `Summing`: the registers of the additions that are left, behind
-- those that are made, are the step's.
-- Assumes nothing.
use Rattle.plain.proofs.Stepping.{Summing}
use Rattle.plain.proofs.steps.plain_step.Given as goal

abbrev pub invariant-loop-k : goal.invariant-loop-k
invariant-loop-k l = Summing l.m l.d l.r l.old l.new l.x l.k
