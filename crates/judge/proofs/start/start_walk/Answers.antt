-- `start_walk` meets its contract: the start order and as many signs +1 stand in front of zeros (`started`).
-- Assumes nothing.
use Rattle.walk.specs.WalkState.{walk_state}
use Rattle.judge.proofs.Starting.{started}
use Rattle.judge.proofs.start.start_walk.Goals as goal

pub returns : goal.returns
unfolding walk_state
returns c = started c.requires _ _ c.copy_from_slice.ensures.after (c.fill.ensures.after (λ y e. e))
