-- `bit` meets its contract: a shift and a remainder are the bit as `bits_of` has it.
-- Assumes nothing.
use Prim.Native.Nat.{◌/◌, ◌%◌, ◌^◌}
use mathlib.Core.Path.{ap}
use native.Mathlib.Omega.{arith}
use Rattle.ladder.proofs.Walk.{get_or-bits_of}
use Rattle.bits.proofs.number.bit.Goals as goal

pub returns : goal.returns
returns c = rw (get_or-bits_of c.args.d c.args.r c.args.k c.requires.0) (ap (λ i. c.args.r / 2 ^ i % 2) (omega arith))
