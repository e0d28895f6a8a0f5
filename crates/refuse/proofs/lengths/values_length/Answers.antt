-- `values_length_lem` meets its contract: in range nothing wraps.
-- Assumes nothing.
use native.Mathlib.Nat.{mul-le-mul}
use Prim.Native.Nat.{◌+◌, ◌/◌, ◌≤◌}
use native.Mathlib.Omega.{arith}
use Rattle.ladder.specs.Numbers.{values_length, value_words}
use borrow.Author.Rules.{rules}
use Rattle.refuse.proofs.lengths.values_length.Goals as goal

pub overflow_mul-result : goal.overflow_mul-result
overflow_mul-result c =
    let w : c.args.l / 64 + 1 ≤ 10 = omega (arith, c.requires.l_high) in
    omega (arith, mul-le-mul c.requires.d_high w)

pub returns : goal.returns
unfolding values_length value_words
returns c = search rules
