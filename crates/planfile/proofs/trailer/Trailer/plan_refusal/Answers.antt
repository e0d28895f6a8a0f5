-- `plan_refusal` meets its contract: each answer is the first number of the row (`plan_row`) that applies.
-- Assumes nothing.
use Rattle.std.proofs.Common.{arith, sym}
use Rattle.refusal.proofs.Laws.{then_refused, then_passed}
use Rattle.refuse.proofs.Laws.{in_range}
use Rattle.planfile.proofs.Held.{plan_row, plan_fits}
use Rattle.planfile.proofs.trailer.Trailer.plan_refusal.Goals as goal

pub returns-in_err-range : goal.returns-in_err-range
returns-in_err-range c = grind (arith, plan_row c.args.self.now.read, then_refused, then_passed)

pub distance_refusal-requires : goal.distance_refusal-requires
distance_refusal-requires c = in_range _ _ (sym c.in_ok-range.ensures)

pub returns-in_err-distance_refusal : goal.returns-in_err-distance_refusal
returns-in_err-distance_refusal c = grind (arith, plan_row c.args.self.now.read, then_refused, then_passed)

pub read_refusal-requires : goal.read_refusal-requires
read_refusal-requires c =
    plan_fits c.args.self.now.read c.plan.ensures (in_range _ _ (sym c.in_ok-range.ensures)) (sym c.in_ok-distance_refusal.ensures)

pub returns : goal.returns
returns c = grind (arith, plan_row c.args.self.now.read, then_refused, then_passed)
