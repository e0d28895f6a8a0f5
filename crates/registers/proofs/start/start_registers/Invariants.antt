-- `start_registers` meets its contract. The loop's invariant is `Beginning`: the registers so far, and those still to come, are the
-- start registers.
-- Assumes nothing.
use Rattle.std.proofs.Common.{pred, map}
use Rattle.registers.proofs.Beginning.{Beginning}
use Rattle.registers.proofs.start.start_registers.Given as goal

abbrev pub invariant-loop-k : goal.invariant-loop-k
invariant-loop-k l = Beginning l.m l.elements (map pred l.start) l.words l.k
