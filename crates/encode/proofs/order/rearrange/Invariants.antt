-- `rearrange` meets its contract. The loop's invariant is `Filled`: the columns from place `left` on are in the array. Rests on
-- its start, its step and its end.
-- Assumes nothing.
use mathlib.Core.Path.{◌≡◌}
use lib.ListN.{take, length}
use Rattle.ladder.specs.Walk.{bits_of}
use Rattle.encode.proofs.Filled.{Filled}
use Rattle.encode.proofs.order.rearrange.Given as goal

abbrev pub invariant-loop-left : goal.invariant-loop-left
invariant-loop-left l =
    (length l.out ≡ 8) × Filled l.d (take l.d l.order) (bits_of l.d l.r) l.left l.front (take l.d l.out)
