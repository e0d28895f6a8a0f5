-- `value_line` meets its contract. The loop's invariant: the values that it went through are appended.
-- Assumes nothing.
use mathlib.Core.Path.{◌≡◌}
use mathlib.Core.List.{◌++◌}
use lib.ListN.{length}
use Rattle.ladder.specs.Listing.{hexadecimal}
use Rattle.ladder.specs.Plan.{answer_row}
use Rattle.loose.specs.PlanOf.{plan_of}
use Rattle.text.proofs.Fields.{fields}
use Rattle.text.proofs.lines.Lines.value_line.Given as goal

abbrev pub invariant-loop-value : goal.invariant-loop-value
invariant-loop-value l = l.self ≡ l.initial.self ++ fields hexadecimal (answer_row (plan_of l.plan)) (length l.yielded)
