-- `start_registers` meets its contract. The loop's invariant is `Beginning`: the registers so far, and those still to come, are the
-- start registers.
-- Assumes nothing.
use Rattle.std.proofs.Common.{suc, pred, ◌+◌, ◌%◌, map, get_or, take, sym, ap, ◌∙◌, arith}
use lib.ListN.{length-map}
use Rattle.ladder.proofs.Tests.{order_at}
use Rattle.ladder.specs.Registers.{modulus}
use Rattle.registers.proofs.Beginning.{beginning_start, beginning_next, beginning_end}
use Rattle.registers.proofs.start.start_registers.Goals as goal

pub loop-k-init : goal.loop-k-init
loop-k-init c = let a = c.args in beginning_start a.m a.elements.now (map pred a.start.now)

pub overflow_sub-j : goal.overflow_sub-j
overflow_sub-j c = (order_at _ c.requires.order c.loop-k.k c.loop-k-test.true).0

pub bounds-elements-j : goal.bounds-elements-j
bounds-elements-j c = omega (arith, order_at _ c.requires.order c.loop-k.k c.loop-k-test.true)

pub loop-k-preserved : goal.loop-k-preserved
loop-k-preserved c =
    let a = c.args in
    let long = length-map a.start.now pred in
    let place = (order_at _ c.requires.order c.loop-k.k c.loop-k-test.true).1 in
    beginning_next a.m a.elements.now (map pred a.start.now) c.loop-k.invariant (omega (arith, long)) (omega (arith, long)) _
    (c.add.ensures ∙ ap (λ j. (get_or c.loop-k.words c.loop-k.k 0 + get_or a.elements.now j 0) % modulus a.m) place)

pub returns : goal.returns
returns c =
    let a = c.args in
    let long = length-map a.start.now pred in
    ap (λ n. take (suc n) c.loop-k.words) (sym long)
    ∙ beginning_end a.m a.elements.now (map pred a.start.now) c.loop-k.invariant (omega (arith, long)) (omega (arith, long))
