-- The trace of one step of a walk, by orders and signs and with no matrix. `walk_block_lem` of proofs/WalkBlock.antt says that it is what
-- the matrix gives.
-- Assumes nothing.
use Rattle.std.specs.Prelude.{ℕ, List, [], ◌∷◌, ℤ, pos, get_or, set, replicate}
use Rattle.ladder.specs.Lists.{ones}
use Rattle.ladder.specs.Matrix.{Pair, additions}
use Rattle.ladder.specs.Trace.{Entry}

-- The additions of the rows ps after one with vector v: each fills in the sign of the column at the next place of the order.
unfoldable pub filled : List ℤ → List ℤ → List ℕ → List Pair → List Entry
filled v signs [] ps = []
filled v signs (j ∷ S) [] = []
filled v signs (j ∷ S) (p ∷ ps) =
    record { x = p.x; y = p.y; vector = set v j (get_or signs j (pos 0)) } ∷ filled (set v j (get_or signs j (pos 0))) signs S ps

-- A step's entries, from the signs before it and the order after it: the doubling, whose vector is all 0, and the additions.
unfoldable pub walk_block : ℕ → List ℤ → List ℕ → List ℕ → List Entry
walk_block d signs S r =
    record { x = ones r; y = ones r; vector = replicate d (pos 0) } ∷ filled (replicate d (pos 0)) signs S (additions r)
