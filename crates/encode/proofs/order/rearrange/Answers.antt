-- `rearrange` meets its contract. Rests on the start, the step and the end of `Filled`.
-- Assumes nothing.
use Prim.Native.Nat.{◌+◌, ◌-◌}
use mathlib.Core.Path.{◌≡◌, refl, ◌∙◌}
use native.Mathlib.Omega.{arith}
use lib.ListN.{take, set, length, length-set}
use lib.Seq.{length-take-le}
use Rattle.encode.proofs.Filled.{nothing_filled, one_more_filled, all-filled}
use borrow.Author.Rules.{rules}
use Rattle.encode.proofs.order.rearrange.Goals as goal

pub loop-left-init : goal.loop-left-init
loop-left-init c =
    let a = c.args in
    let wide : length a.order ≡ 8 = search rules in
    (refl, nothing_filled a.order a.d a.r (omega arith) _ (length-take-le a.d _ (omega arith)))

pub loop-left-preserved : goal.loop-left-preserved
loop-left-preserved c =
    let a = c.args in
    let l = c.loop-left in
    let wide : length a.order ≡ 8 = search rules in (
      length-set (set l.out l.front _) (l.front + (l.left - 1)) _ ∙ length-set l.out l.front _ ∙ l.invariant.0,
      one_more_filled a.order a.d a.r (omega arith) l.out l.left (l.left - 1) l.front (omega arith) (omega arith) (omega arith) l.invariant.1,
    )

pub returns : goal.returns
returns c =
    let a = c.args in
    let l = c.loop-left in
    let wide : length a.order ≡ 8 = search rules in
    let done : l.left ≡ 0 = omega arith in
    all-filled a.order a.d a.r (omega arith) l.front (take a.d l.out) (rw done at l.invariant.1)
