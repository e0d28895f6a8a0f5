-- `held_plan` meets its contract: a file that is not refused has its body before its trailer (`distance_found`).
-- Assumes nothing.
use Rattle.planfile.proofs.Held.{distance_found}
use Rattle.planfile.proofs.whole.held_plan.Goals as goal

pub plan-requires : goal.plan-requires
plan-requires c = rw c.in_ok-trailer.ensures.same (distance_found _ c.in_ok-trailer.ensures.refusal)
