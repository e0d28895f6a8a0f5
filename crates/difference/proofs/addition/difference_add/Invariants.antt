-- `difference_add` meets its contract. The loop's invariant is `Combining`: the sum so far, and the combination of the elements that
-- are left, make the new register.
-- Assumes nothing.
use Rattle.difference.proofs.Combining.{Combining}
use Rattle.difference.proofs.addition.difference_add.Given as goal

abbrev pub invariant-loop-j : goal.invariant-loop-j
invariant-loop-j l = Combining l.m l.elements l.vector l.x l.sum l.j
