-- `write_start` meets its contract. The loop's invariant: the first k columns are written, counted from 1.
-- Assumes nothing.
use Prim.Native.Nat.{suc}
use mathlib.Core.Path.{◌≡◌}
use mathlib.Core.List.{map}
use lib.ListN.{take}
use Rattle.encode.proofs.steps.write_start.Given as goal

abbrev pub invariant-loop-k : goal.invariant-loop-k
invariant-loop-k l = take l.k l.start ≡ map suc (take l.k l.order)
