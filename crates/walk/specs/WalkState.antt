-- The walk state that the code holds, as the rules have it.
-- Assumes nothing.
use Rattle.ladder.specs.Walk as rules
use Rattle.walk.specs.declared.state.Walk.{Walk}

unfoldable pub walk_state : Walk → rules.Walk
walk_state w = record { d = w.d; order = w.order; signs = w.signs }
