-- `lower_values` meets its contract: what is held and what is stored are the digits of the signs so far.
-- Assumes nothing.
use Rattle.loose.specs.PlanOf.{plan_of}
use Rattle.values.proofs.Lowering.{Lowering}
use Rattle.values.proofs.lower.lower_values.Given as goal

abbrev pub invariant-loop-step : goal.invariant-loop-step
invariant-loop-step l = Lowering (plan_of l.fn.plan) l.order l.held l.values l.step
