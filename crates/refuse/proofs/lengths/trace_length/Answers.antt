-- `trace_length` meets its contract: in range nothing wraps.
-- Assumes nothing.
use native.Mathlib.Nat.{mul-le-mul}
use Prim.Native.Nat.{◌+◌, ◌≤◌}
use native.Mathlib.Omega.{arith}
use Rattle.ladder.specs.Numbers.{trace_length}
use borrow.Author.Rules.{rules}
use Rattle.refuse.proofs.lengths.trace_length.Goals as goal

pub overflow_add-result : goal.overflow_add-result
overflow_add-result c = omega (arith, c.requires.d_high)

pub overflow_mul-result : goal.overflow_mul-result
overflow_mul-result c =
    let e : c.args.d + 1 ≤ 9 = omega (arith, c.requires.d_high) in
    omega (arith, mul-le-mul c.requires.l_high e)

pub overflow_add-result-2 : goal.overflow_add-result-2
overflow_add-result-2 c = omega (arith, c.requires.d_high)

pub overflow_mul-result-2 : goal.overflow_mul-result-2
overflow_mul-result-2 c =
    let e : c.args.d + 1 ≤ 9 = omega (arith, c.requires.d_high) in
    let f : c.args.d + 2 ≤ 10 = omega (arith, c.requires.d_high) in
    omega (arith, mul-le-mul (mul-le-mul c.requires.l_high e) f)

pub returns : goal.returns
unfolding trace_length
returns c = search rules
