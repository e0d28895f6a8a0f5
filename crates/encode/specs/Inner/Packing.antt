-- Bits that are written into bytes from the last to the first.
-- Assumes nothing.
use Rattle.std.specs.Prelude.{ℕ, ◌+◌, ◌*◌, ◌≤◌, ◌<◌, ◌^◌, ◌≡◌, length, drop}
use mathlib.Core.List.{List, ◌++◌, map, flatten}
use Rattle.ladder.specs.Walk.{bits_of}
use Rattle.encode.specs.declared.packing.Packer.{Packer}

-- The bits that are held, then those of the bytes that are written.
unfoldable pub bits_in : Packer → List ℕ
bits_in p = bits_of p.held p.fill ++ flatten (map (bits_of 8) (drop p.at p.bytes.now))

-- Less than a byte is held, and no more bytes are to be written than there are.
pub record Open (p : Packer) : Type 0 where
  pub few : p.held < 8
  pub small : p.fill < 2 ^ p.held
  pub inside : p.at ≤ length p.bytes.now

-- There is room for d bits more, the number r.
pub record Room (p : Packer) (d r : ℕ) : Type 0 where
  pub state : Open p
  pub d_high : d ≤ 8
  pub fits : r < 2 ^ d
  pub room : p.held + d ≤ 8 * p.at

-- The d bits of r were put before the others, into as many bytes.
pub record Put (p : Packer) (d r : ℕ) (q : Packer) : Type 0 where
  pub state : Open q
  pub moved : 8 * q.at + p.held + d ≡ 8 * p.at + q.held
  pub long : length q.bytes.now ≡ length p.bytes.now
  pub bits : bits_in q ≡ bits_of d r ++ bits_in p
