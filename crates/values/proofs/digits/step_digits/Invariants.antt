-- `step_digits` meets its contract. The loop's invariant is `Pushing`: the order filled so far, and the digits of the columns in it.
-- Assumes nothing.
use Rattle.values.proofs.Pushing.{Pushing}
use Rattle.values.proofs.digits.step_digits.Given as goal

abbrev pub invariant-loop-k : goal.invariant-loop-k
invariant-loop-k l = Pushing l.d l.old l.r l.initial.held l.new l.x l.held l.k
