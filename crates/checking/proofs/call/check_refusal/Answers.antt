-- `check_refusal` meets its contract: what is judged beside the plan is the scalars' length, and then the scalars are.
-- Assumes nothing.
use Rattle.std.proofs.Common.{rules, arith, ◌≡◌, sym}
use Rattle.ladder.specs.Numbers.{scalars_length}
use Rattle.ladder.specs.Refusals.{shape, loose_refusal, scalars_in, check_refusal}
use Rattle.loose.specs.PlanOf.{plan_of}
use Rattle.refusal.proofs.Laws.{then_refused, then_passed}
use Rattle.checking.proofs.Comparing.{shaped}
use Rattle.checking.proofs.call.check_refusal.Goals.{In_ok-loose_refusal}
use Rattle.checking.proofs.call.check_refusal.Goals as goal

pub returns-in_err-loose_refusal : goal.returns-in_err-loose_refusal
unfolding check_refusal shape
returns-in_err-loose_refusal c =
    let a = c.args in
    let refused = c.in_err-loose_refusal.ensures (shape a.scalars.now (scalars_length a.plan.now.d a.plan.now.l)) (λ range r post. search rules) in
    grind (arith, then_refused)

-- Past the first refusal neither the plan nor the scalars' length is refused.
passed : (c : In_ok-loose_refusal)
    → 0 ≡ loose_refusal (plan_of c.args.plan.now) (shape c.args.scalars.now (scalars_length c.args.plan.now.d c.args.plan.now.l))
unfolding shape
passed c = c.in_ok-loose_refusal.ensures _ (λ range r post. search rules)

pub scalar_refusal-requires : goal.scalar_refusal-requires
scalar_refusal-requires c = shaped (plan_of c.args.plan.now) c.args.scalars.now (sym (passed (goal.at.scalar_refusal-requires c).In_ok-loose_refusal))

pub returns : goal.returns
unfolding check_refusal scalars_in
returns c =
    let past = passed (goal.at.returns c).In_ok-loose_refusal in
    grind (arith, then_passed)
