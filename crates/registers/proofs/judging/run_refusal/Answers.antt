-- `run_refusal` meets its contract: what is judged beside the plan is the elements' length, then the registers'.
-- Assumes nothing.
use Rattle.std.proofs.Common.{◌≡◌, arith, rules}
use Rattle.ladder.specs.Numbers.{elements_length, registers_length}
use Rattle.ladder.specs.Refusals.{◌then◌, shape, loose_refusal, run_refusal}
use Rattle.loose.specs.PlanOf.{plan_of}
use Rattle.refusal.specs.Answers.{refusal_of}
use Rattle.refusal.proofs.Laws.{then_refused, then_passed}
use Rattle.registers.proofs.judging.run_refusal.Goals.{After-loose_refusal}
use Rattle.registers.proofs.judging.run_refusal.Goals as goal

judged : (c : After-loose_refusal)
    → refusal_of c.loose_refusal.result
    ≡ loose_refusal (plan_of c.args.plan.now)
    (shape c.args.elements.now (elements_length c.args.plan.now.d) then shape c.args.registers.now (registers_length c.args.plan.now.d))
unfolding shape elements_length registers_length
judged c = c.loose_refusal.ensures _ (λ range r post. search (rules, then_refused, then_passed))

pub returns-in_err-loose_refusal : goal.returns-in_err-loose_refusal
unfolding run_refusal
returns-in_err-loose_refusal c = let said = judged (goal.at.returns-in_err-loose_refusal c).After-loose_refusal in grind (arith, then_refused)

pub returns-in_err-too_large : goal.returns-in_err-too_large
unfolding run_refusal
returns-in_err-too_large c = let said = judged (goal.at.returns-in_err-too_large c).After-loose_refusal in grind (arith, then_refused, then_passed)

pub returns : goal.returns
unfolding run_refusal
returns c = let said = judged (goal.at.returns c).After-loose_refusal in grind (arith, then_passed)
