-- `deal` meets its contract. The loop's invariant: r is the bits of the first places, those that are behind, as one number.
-- Assumes nothing.
use Prim.Native.Nat.{◌<◌, ◌^◌}
use mathlib.Core.Path.{◌≡◌}
use lib.ListN.{take}
use Rattle.ladder.specs.Walk.{bits_of}
use Rattle.encode.specs.Inner.Order.{dealt_by}
use Rattle.encode.proofs.dealing.deal.Given as goal

abbrev pub invariant-loop-column : goal.invariant-loop-column
invariant-loop-column l =
    (l.r < 2 ^ l.column-index) × (bits_of l.column-index l.r ≡ dealt_by l.dealt (take l.column-index l.column-items))
