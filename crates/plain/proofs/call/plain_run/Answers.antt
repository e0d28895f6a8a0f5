-- `plain_run` keeps its promise: where nothing is refused, the plain steps can be made (`steps_ask`) and end in the rows' combinations
-- (`ends_in`).
-- Assumes nothing.
use Rattle.std.proofs.Common.{◌≡◌, suc, take, ◌∙◌, rules}
use Rattle.ladder.specs.Numbers.{bits_at}
use Rattle.ladder.specs.Plan.{start_order}
use Rattle.ladder.specs.Registers.{plain_rule, registers_after}
use Rattle.loose.specs.PlanOf.{plan_of}
use Rattle.registers.proofs.Ran.{asked}
use Rattle.plain.proofs.Ran.{steps_ask, ends_in}
use Rattle.plain.proofs.call.plain_run.Goals as goal

pub run_by_steps-requires : goal.run_by_steps-requires
run_by_steps-requires c none first begun = let asks = steps_ask (asked none).plan begun in search (rules, asks)

pub returns : goal.returns
returns c = c.run_by_steps.ensures _ (λ none first end begun post.
    let asks = steps_ask (asked none).plan begun in
    let p = plan_of c.args.plan.now in
    let made : take (suc p.d) end.words
    ≡ registers_after (plain_rule c.args.m) p.d (start_order p) (bits_at p.d p.bits) (take (suc p.d) first.words) p.l =
    search (rules, asks) in
    made ∙ ends_in (asked none).plan begun)
