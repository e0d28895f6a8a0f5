-- `file_length` meets its contract: in range nothing wraps.
-- Assumes nothing.
use Prim.Native.Nat.{◌+◌}
use mathlib.Core.Path.{ap}
use native.Mathlib.Omega.{arith}
use Rattle.ladder.specs.Numbers.{bits_length, bytes_for}
use Rattle.ladder.specs.PlanFile.{file_length, body_length, trailer_size}
use Rattle.ladder.proofs.Bits.{bits_bound}
use Rattle.refuse.proofs.lengths.file_length.Goals as goal

pub bits_length-requires : goal.bits_length-requires
bits_length-requires c = c.requires

pub overflow_add-result : goal.overflow_add-result
unfolding bits_length bytes_for
overflow_add-result c = let r = c.requires in omega (arith, c.bits_length.ensures, bits_bound _ _ r.d_high r.l_high)

pub overflow_add-result-2 : goal.overflow_add-result-2
unfolding bits_length bytes_for
overflow_add-result-2 c = let r = c.requires in omega (arith, c.bits_length.ensures, bits_bound _ _ r.d_high r.l_high)

pub returns : goal.returns
unfolding file_length body_length trailer_size
returns c = ap (λ n. c.args.d + n + 12) c.bits_length.ensures
