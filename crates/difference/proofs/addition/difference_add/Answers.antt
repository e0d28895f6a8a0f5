-- `difference_add` meets its contract. The loop's invariant is `Combining`: the sum so far, and the combination of the elements that
-- are left, make the new register.
-- Assumes nothing.
use Rattle.std.proofs.Common.{◌%◌, ◌<◌, get_or, pos, sym, ap, ◌∙◌, subst, arith, to_z-of_z, w8, SFits, rules}
use Rattle.ladder.specs.Matrix.{IsSmall}
use Rattle.ladder.specs.Registers.{modulus, times_signed}
use Rattle.registers.proofs.ByModulus.{below_modulus}
use Rattle.difference.proofs.Combining.{combining_start, combining_next, combining_end}
use Rattle.difference.proofs.addition.difference_add.Goals as goal

pub loop-j-init : goal.loop-j-init
loop-j-init c =
    let a = c.args in
    combining_start a.m a.elements.now a.vector.now a.x _ c.add-sum.ensures

pub bounds-vector-j : goal.bounds-vector-j
bounds-vector-j c = omega (arith, c.loop-j-test.true, c.requires.wide)

pub times-requires : goal.times-requires
times-requires c =
    let here = c.loop-j-test.true in
    let fits : SFits w8 (get_or c.args.vector.now c.loop-j.j (pos 0)) = search rules in
    (subst IsSmall (sym (to_z-of_z fits)) (c.requires.small c.loop-j.j here), c.requires.below c.loop-j.j here)

pub add-sum-requires-in-loop-j : goal.add-sum-requires-in-loop-j
add-sum-requires-in-loop-j c =
    let below : c.times.result < modulus c.args.m = rw c.times.ensures (below_modulus c.args.m _) in
    (c.loop-j.invariant.below, below)

pub loop-j-preserved : goal.loop-j-preserved
loop-j-preserved c =
    let a = c.args in
    let here = c.loop-j-test.true in
    let fits : SFits w8 (get_or a.vector.now c.loop-j.j (pos 0)) = search rules in
    combining_next a.m a.elements.now a.vector.now a.x c.loop-j.invariant here (omega (arith, here, c.requires.wide))
    c.times.result
    (c.times.ensures
    ∙ ap (λ z. times_signed a.m z (get_or a.elements.now c.loop-j.j 0) % modulus a.m) (to_z-of_z fits))
    _ c.add-sum-in-loop-j.ensures

pub returns : goal.returns
returns c =
    let a = c.args in
    combining_end a.m a.elements.now a.vector.now a.x c.loop-j.invariant (search rules)
    (omega (arith, c.requires.wide, c.loop-j-test.false))
