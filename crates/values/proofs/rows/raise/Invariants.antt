-- `raise` meets its contract: the values before j are done, the others are as they came.
-- Assumes nothing.
use Rattle.values.proofs.Raising.{Raising}
use Rattle.values.proofs.rows.raise.Given as goal

abbrev pub invariant-loop-j : goal.invariant-loop-j
invariant-loop-j l = Raising l.d l.k l.above l.initial.values l.values l.j
