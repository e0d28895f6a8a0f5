-- `scalars_length` meets its contract: in range nothing wraps.
-- Assumes nothing.
use native.Mathlib.Nat.{mul-le-mul}
use Prim.Native.Nat.{◌+◌, ◌/◌, ◌≤◌}
use native.Mathlib.Omega.{arith}
use Rattle.ladder.specs.Numbers.{scalars_length, scalar_words}
use borrow.Author.Rules.{rules}
use Rattle.refuse.proofs.lengths.scalars_length.Goals as goal

pub overflow_add-result : goal.overflow_add-result
overflow_add-result c = omega (arith, c.requires.l_high)

pub overflow_mul-result : goal.overflow_mul-result
overflow_mul-result c =
    let w : (c.args.l + 63) / 64 ≤ 9 = omega (arith, c.requires.l_high) in
    omega (arith, mul-le-mul c.requires.d_high w)

pub returns : goal.returns
unfolding scalars_length scalar_words
returns c = search rules
