-- `start_line` meets its contract. The loop's invariant: the first columns are appended, as many as its index.
-- Assumes nothing.
use mathlib.Core.Path.{◌≡◌}
use mathlib.Core.List.{◌++◌}
use Rattle.ladder.specs.Listing.{decimal}
use Rattle.text.proofs.Fields.{fields}
use Rattle.text.proofs.lines.Lines.start_line.Given as goal

abbrev pub invariant-loop-column : goal.invariant-loop-column
invariant-loop-column l = l.self ≡ l.initial.self ++ fields decimal l.plan.start.now l.column-index
