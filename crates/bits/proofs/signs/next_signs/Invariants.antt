-- `next_signs` meets its contract. The loop's invariant is `Turning`: the columns at the places passed have their new signs.
-- Assumes nothing.
use Rattle.bits.proofs.Turning.{Turning}
use Rattle.bits.proofs.signs.next_signs.Given as goal

abbrev pub invariant-loop-k : goal.invariant-loop-k
invariant-loop-k l = Turning l.d l.signs l.order l.r l.new l.k
