-- What the inner contracts of the table need.
-- Assumes nothing.
use Rattle.std.specs.Prelude.{ℕ, ◌≤◌}

-- Neither d nor l is refused.
pub record InRange (d l : ℕ) : Type 0 where
  pub d_low : 1 ≤ d
  pub d_high : d ≤ 8
  pub l_low : 1 ≤ l
  pub l_high : l ≤ 576
