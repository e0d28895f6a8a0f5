-- What stands in the room, which keeps its length, is what the input has lost, and less is left to fill each time.
-- Assumes nothing.
use Rattle.std.proofs.Common.{◌≡◌, ◌-◌, ◌≤◌, length, take}
use Rattle.std.specs.Io.KnownBytes.{Consumes}
use Rattle.wire.proofs.stream.read_full.Given as goal

abbrev pub invariant-loop-done : goal.invariant-loop-done
invariant-loop-done g l =
    (l.done ≤ length l.room) × (length l.room ≡ length l.initial.room)
    × Consumes (g.R.Read.remaining l.initial.input) (g.R.Read.remaining l.input) (take l.done l.room)

abbrev pub decreases-loop-done : goal.decreases-loop-done
decreases-loop-done g l = length l.room - l.done
