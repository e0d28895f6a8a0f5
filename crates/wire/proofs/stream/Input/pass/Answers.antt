-- What the reader has lost, it has lost by the reads so far and by the last.
-- Assumes nothing.
use Rattle.wire.proofs.Losing.{Loses-trans}
use Rattle.wire.proofs.stream.Input.pass.Goals as goal

pub returns-in_err-next_number : goal.returns-in_err-next_number
returns-in_err-next_number g c = Loses-trans _ _ _ c.loop.invariant c.next_number.ensures

pub returns-then-is_none : goal.returns-then-is_none
returns-then-is_none g c = Loses-trans _ _ _ c.loop.invariant c.next_number.ensures

pub loop-preserved : goal.loop-preserved
loop-preserved g c = Loses-trans _ _ _ c.loop.invariant c.next_number.ensures
