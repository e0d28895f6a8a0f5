-- What the inner contracts of the lines need.
-- Assumes nothing.
use Rattle.std.specs.Prelude.{ℕ, ◌+◌, ◌≤◌, ◌≡◌, List, length}
use Rattle.ladder.specs.Numbers.{longest_text}
use Rattle.ladder.specs.Plan.{Plan}
use Rattle.ladder.specs.Refusals.{loose_refusal}

-- After a text there is room for a piece.
abbrev pub Room : List ℕ → List ℕ → Type 0
Room text piece = length text + length piece ≤ longest_text

-- What listing a plan asks: that it is not refused.
abbrev pub Listable : Plan → Type 0
Listable p = loose_refusal p 0 ≡ 0
