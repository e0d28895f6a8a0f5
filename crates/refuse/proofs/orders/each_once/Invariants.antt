-- Each of the numbers tried occurs once.
-- Assumes nothing.
use Rattle.std.proofs.Common.{◌≡◌, ◌<◌, ℕ, suc}
use Rattle.ladder.specs.Lists.{count}
use Rattle.refuse.proofs.orders.each_once.Given as goal

abbrev pub invariant-loop-v : goal.invariant-loop-v
invariant-loop-v l = (j : ℕ) → j < l.v → count (suc j) l.s ≡ 1
