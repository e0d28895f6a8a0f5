-- A signed number's eight bits, as a number, are its byte.
-- Assumes nothing.
use mathlib.Core.Path.{◌≡◌, refl}
use native.Mathlib.Omega.{arith}
use lib.IntN.{ℤ, pos, negsuc}
use mir.Syntax.{w8}
use mir.Val.{of_z}
use Rattle.ladder.specs.Trace.{signed_byte}

pub byte_is : (z : ℤ) → of_z w8 z ≡ signed_byte z
unfolding signed_byte
byte_is (pos n) = refl
byte_is (negsuc n) = omega arith
