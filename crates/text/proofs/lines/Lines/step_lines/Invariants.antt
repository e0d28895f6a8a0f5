-- `step_lines` meets its contract. The loop's invariant: the lines of the first s steps are appended.
-- Assumes nothing.
use mathlib.Core.Path.{◌≡◌}
use mathlib.Core.List.{◌++◌}
use Rattle.ladder.specs.Lists.{joined}
use Rattle.ladder.specs.Listing.{step_line}
use Rattle.loose.specs.PlanOf.{plan_of}
use Rattle.text.proofs.lines.Lines.step_lines.Given as goal

abbrev pub invariant-loop-s : goal.invariant-loop-s
invariant-loop-s l = l.self ≡ l.initial.self ++ joined l.s (step_line (plan_of l.plan))
