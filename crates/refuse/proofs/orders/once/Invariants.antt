-- `once` meets its contract. The loop's invariant: the first elements are counted, as many as its index.
-- Assumes nothing.
use mathlib.Core.Path.{◌≡◌}
use lib.ListN.{take}
use Rattle.ladder.specs.Lists.{count}
use Rattle.refuse.proofs.orders.once.Given as goal

abbrev pub invariant-loop-x : goal.invariant-loop-x
invariant-loop-x l = l.n ≡ count l.v (take l.x-index l.s)
