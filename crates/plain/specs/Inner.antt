-- What the inner contracts of the plain run need: no promise rests on it.
-- Assumes nothing.
use Rattle.std.specs.Prelude.{ℕ, suc, ◌+◌, ◌%◌, ◌≤◌, ◌≡◌, List, length, get_or}
use Rattle.ladder.specs.Matrix.{Pair}
use Rattle.ladder.specs.Numbers.{bits_length}
use Rattle.ladder.specs.Registers.{modulus}
use Rattle.registers.specs.Inner.{Elements}

-- The register that a pair of rows makes of the old ones.
unfoldable pub plain_sum : ℕ → List ℕ → Pair → ℕ
plain_sum m old p = (get_or old p.x 0 + get_or old p.y 0) % modulus m

-- What a step asks: d + 1 old registers that are elements.
pub record PlainStep (m d : ℕ) (old : List ℕ) : Type 0 where
  pub d_high : d ≤ 8
  pub rows : length old ≡ suc d
  pub below : Elements m (suc d) old

-- What all steps ask: besides, l steps' bits.
pub record PlainSteps (m d l : ℕ) (bytes start : List ℕ) : Type 0 where
  pub step : PlainStep m d start
  pub l_high : l ≤ 576
  pub bits : length bytes ≡ bits_length d l
