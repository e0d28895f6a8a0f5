-- `bits_length` meets its contract: in range nothing wraps.
-- Assumes nothing.
use native.Mathlib.Nat.{mul-le-mul}
use native.Mathlib.Omega.{arith}
use Rattle.ladder.specs.Numbers.{bits_length, bytes_for}
use borrow.Author.Rules.{rules}
use Rattle.refuse.proofs.lengths.bits_length.Goals as goal

pub overflow_mul-result : goal.overflow_mul-result
overflow_mul-result c = omega (arith, mul-le-mul c.requires.l_high c.requires.d_high)

pub overflow_add-result : goal.overflow_add-result
overflow_add-result c = omega (arith, mul-le-mul c.requires.l_high c.requires.d_high)

pub returns : goal.returns
unfolding bits_length bytes_for
returns c = search rules
