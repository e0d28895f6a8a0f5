-- What the reader has lost, it has lost by the reads so far and by the last.
-- Assumes nothing.
use Rattle.wire.proofs.Losing.{Loses-trans}
use Rattle.wire.proofs.stream.Input.bytes.Goals as goal

pub returns-in_err-value : goal.returns-in_err-value
returns-in_err-value g c = Loses-trans _ _ _ c.loop-byte.invariant c.next_number.ensures

pub returns-in_default : goal.returns-in_default
returns-in_default g c = Loses-trans _ _ _ c.loop-byte.invariant c.next_number.ensures

pub loop-byte-preserved : goal.loop-byte-preserved
loop-byte-preserved g c = Loses-trans _ _ _ c.loop-byte.invariant c.next_number.ensures
