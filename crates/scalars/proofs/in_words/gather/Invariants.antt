-- `gather` meets its contract. The loop goes from the last scalar to the first; its invariant: the bits of the scalars from j on
-- are gathered.
-- Assumes nothing.
use mathlib.Core.Path.{◌≡◌}
use lib.ListN.{drop}
use Rattle.ladder.specs.Numbers.{numbers_of}
use Rattle.scalars.specs.Inner.{gathered}
use Rattle.scalars.proofs.in_words.gather.Given as goal

abbrev pub invariant-loop-j : goal.invariant-loop-j
invariant-loop-j l = l.bits ≡ gathered (drop l.j (numbers_of l.d l.k l.scalars)) l.i
