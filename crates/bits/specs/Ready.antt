-- A walk state that can be stepped.
-- Assumes nothing.
use Rattle.std.specs.Prelude.{ℕ, suc, pred, ◌≤◌, ◌≡◌, List, map, take}
use Rattle.ladder.specs.Matrix.{Arrangement, Units}
use Rattle.ladder.specs.Walk.{Walk}

-- The first d places of an order are an arrangement of the columns 1..d.
pub record Columns (d : ℕ) (order : List ℕ) : Type 0 where
  pub columns : Arrangement d (map pred (take d order))
  pub counted : take d order ≡ map suc (map pred (take d order))

-- d is in range, the order an arrangement and the signs of the first d columns 1 or -1.
pub record Ready (w : Walk) : Type 0 where
  pub low : 1 ≤ w.d
  pub high : w.d ≤ 8
  pub order : Columns w.d w.order
  pub signs : Units w.d w.signs
