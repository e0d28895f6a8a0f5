-- `difference_step` meets its contract. The loop's invariant is `Stepping`: the new order, the new signs and the new registers, each as a loop
-- of its own makes them.
-- Assumes nothing.
use Rattle.difference.proofs.Stepping.{Stepping}
use Rattle.difference.proofs.steps.difference_step.Given as goal

abbrev pub invariant-loop-k : goal.invariant-loop-k
invariant-loop-k l =
    Stepping l.m l.w.d l.w.order l.w.signs l.r l.elements l.old l.vector l.order l.signs l.new l.x l.k
