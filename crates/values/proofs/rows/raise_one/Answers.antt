-- `raise_one` meets its contract: where the last digit and the count are the same the value stays, else it is one more.
-- Assumes nothing.
use Rattle.values.proofs.Raising.{not_raised, one_raised}
use Rattle.values.proofs.rows.raise_one.Goals as goal

pub returns-then-value-above : goal.returns-then-value-above
returns-then-value-above c = one_raised _ _ _ c.if-value-above.true c.increment.ensures

pub returns-else-value-above : goal.returns-else-value-above
returns-else-value-above c = not_raised _ _ (λ i. (c.type_inv.value i).fits) c.if-value-above.false
