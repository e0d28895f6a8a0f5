-- `encode_with` meets its contract. The loop's invariant is `Behind`: i steps are behind, the last ones. The packer writes to the same
-- bytes all along.
-- Assumes nothing.
use mathlib.Core.Path.{◌≡◌}
use lib.ListN.{take}
use Rattle.ladder.specs.Numbers.{numbers_of, scalar_words}
use Rattle.encode.proofs.Backward.{Behind}
use Rattle.encode.proofs.steps.encode_with.Given as goal

abbrev pub invariant-loop-i : goal.invariant-loop-i
invariant-loop-i l =
    (l.packer.bytes.ghost_name ≡ l.initial.packer.bytes.ghost_name)
    × Behind l.d l.l (numbers_of l.d (scalar_words l.l) l.scalars) (take l.d l.initial.order) l.i l.order l.packer l.below
