-- `step` keeps its promise (`kept_refused` and `kept_accepted`, which it names): a state that is not refused can be stepped.
-- Assumes nothing.
use Rattle.std.proofs.Common.{sym}
use Rattle.ladder.proofs.Operations.{step_none}
use Rattle.walk.specs.WalkState.{walk_state}
use Rattle.bits.proofs.PlanWalk.{ready_walk}
use Rattle.walk.proofs.state.Walk.step.Goals as goal

pub advance-requires : goal.advance-requires
advance-requires c =
    let ok = (step_none (walk_state c.args.self) c.args.bits).0 (sym c.in-Ok.ensures) in
    ready_walk (walk_state c.args.self) ok.dimension.0 ok.dimension.1 ok.walk
