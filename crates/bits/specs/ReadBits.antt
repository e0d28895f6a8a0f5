-- The bits of a step as they are read from bytes.
-- Assumes nothing.
use Rattle.std.specs.Prelude.{ℕ, ◌^◌, ◌<◌, ◌≡◌, List}
use Rattle.ladder.specs.Numbers.{bits_at}
use Rattle.ladder.specs.Walk.{bits_of}

-- r stands for the d bits of step s (the rules' step s+1), and has no bits besides.
pub record ReadBits (d s : ℕ) (bytes : List ℕ) (r : ℕ) : Type 0 where
  pub bits : bits_of d r ≡ bits_at d bytes s
  pub below : r < 2 ^ d
