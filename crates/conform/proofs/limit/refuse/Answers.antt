-- What the input has lost, it has lost by the lists so far and by the last.
-- Assumes nothing.
use Rattle.wire.proofs.Losing.{Loses-trans}
use Rattle.conform.proofs.limit.refuse.Goals as goal

pub returns-in_err-pass-clause-read : goal.returns-in_err-pass-clause-read
returns-in_err-pass-clause-read g c = Loses-trans _ _ _ c.loop-count.invariant c.pass.ensures

pub loop-count-preserved : goal.loop-count-preserved
loop-count-preserved g c = Loses-trans _ _ _ c.loop-count.invariant c.pass.ensures
