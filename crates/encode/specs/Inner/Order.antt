-- Orders in the first d places of an array of eight, and the bits dealt by one.
-- Assumes nothing.
use Rattle.std.specs.Prelude.{ℕ, ◌/◌, ◌%◌, ◌^◌, ◌≤◌, ◌<◌, List, map, get_or}

-- The first d places hold columns.
pub record ColumnsIn (d : ℕ) (order : List ℕ) : Type 0 where
  pub d_high : d ≤ 8
  pub inside : (k : ℕ) → k < d → get_or order k 0 < d

-- Each place's bit, where column j's stands in a number at weight 2^j.
unfoldable pub dealt_by : ℕ → List ℕ → List ℕ
dealt_by n S = map (λ j. n / 2 ^ j % 2) S
