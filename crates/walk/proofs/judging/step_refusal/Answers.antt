-- `step_refusal` meets its contract: only a d in range comes to the other two.
-- Assumes nothing.
use Rattle.std.proofs.Common.{sym}
use Rattle.ladder.proofs.Refusals.{dim_none}
use Rattle.walk.proofs.judging.step_refusal.Goals as goal

pub walk_order-requires : goal.walk_order-requires
walk_order-requires c = ((dim_none _).0 (sym c.in_ok-dim.ensures)).1

pub step_shape-requires : goal.step_shape-requires
step_shape-requires c = ((dim_none _).0 (sym c.in_ok-dim.ensures)).1
