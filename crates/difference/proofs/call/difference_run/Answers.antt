-- `difference_run` keeps its promise: where nothing is refused, the difference steps can be made from the walk's start (`steps_ask`), and end
-- in the registers that the plan's own rule defines (`ends_in`).
-- Assumes nothing.
use Rattle.std.proofs.Common.{◌≡◌, suc, pred, map, take, ◌∙◌, arith, rules}
use Rattle.ladder.specs.Numbers.{bits_at}
use Rattle.ladder.specs.Registers.{difference_rule, registers_after}
use Rattle.loose.specs.PlanOf.{plan_of}
use Rattle.registers.proofs.Ran.{asked}
use Rattle.difference.proofs.Ran.{steps_ask, ends_in}
use Rattle.difference.proofs.call.difference_run.Goals as goal

pub run_by_steps-requires : goal.run_by_steps-requires
run_by_steps-requires c none first begun =
    let asks = steps_ask (asked none) (λ i. omega (arith, c.type_inv.elements i)) begun in
    search (rules, asks)

pub returns : goal.returns
returns c = c.run_by_steps.ensures _ (λ none first end begun post.
    let p = plan_of c.args.plan.now in
    let asks = steps_ask (asked none) (λ i. omega (arith, c.type_inv.elements i)) begun in
    let made : take (suc p.d) end.words
    ≡ registers_after (difference_rule c.args.m c.args.elements.now) p.d (map pred p.start) (bits_at p.d p.bits) (take (suc p.d) first.words) p.l =
    search (rules, asks) in
    made ∙ ends_in (asked none) (λ i. omega (arith, c.type_inv.elements i)) begun)
