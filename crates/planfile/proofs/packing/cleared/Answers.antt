-- `cleared` meets its contract: a power of 2 below 256 is not cut.
-- Assumes nothing.
use Prim.Native.Nat.{◌*◌, ◌%◌, ◌^◌}
use mathlib.Core.Path.{◌≡◌, ◌∙◌}
use native.Mathlib.Nat.{one-mul, mod-le}
use native.Mathlib.Omega.{arith}
use lib.Pow.{pow_pos, shl_exact}
use Rattle.planfile.proofs.packing.cleared.Goals.{Start}
use Rattle.planfile.proofs.packing.cleared.Goals as goal

-- What the shift leaves is 2^n.
power : (c : Start) → 1 * 2 ^ c.args.n % 256 ≡ 2 ^ c.args.n
power c = shl_exact 1 c.args.n 8 (omega arith) (omega arith) ∙ one-mul _

pub nonzero_rem-result : goal.nonzero_rem-result
nonzero_rem-result c = rw (power c) (pow_pos c.args.n)

pub overflow_sub-result : goal.overflow_sub-result
overflow_sub-result c = mod-le _ _

pub returns : goal.returns
returns c = rw (power c)
