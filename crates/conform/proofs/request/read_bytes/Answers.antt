-- What the input has lost, it has lost by the two lists and by the refilling after them.
-- Assumes nothing.
use Rattle.wire.proofs.Losing.{Loses-trans}
use Rattle.conform.proofs.request.read_bytes.Goals as goal

pub returns-in_err-bytes-2 : goal.returns-in_err-bytes-2
returns-in_err-bytes-2 g c = Loses-trans _ _ _ c.bytes.ensures c.bytes-2.ensures

pub returns-then-has_ended : goal.returns-then-has_ended
returns-then-has_ended g c = Loses-trans _ _ _ c.bytes.ensures c.bytes-2.ensures

pub returns-in_err-refill : goal.returns-in_err-refill
returns-in_err-refill g c = Loses-trans _ _ _ (Loses-trans _ _ _ c.bytes.ensures c.bytes-2.ensures) c.refill.ensures

pub returns : goal.returns
returns g c = Loses-trans _ _ _ (Loses-trans _ _ _ c.bytes.ensures c.bytes-2.ensures) c.refill.ensures
