-- `columns_above` meets its contract: the counts so far are those of the places passed.
-- Assumes nothing.
use Rattle.values.proofs.Above.{Above}
use Rattle.values.proofs.rows.columns_above.Given as goal

abbrev pub invariant-loop-column : goal.invariant-loop-column
invariant-loop-column l = Above l.fn.order l.above l.column-index
