-- `bits` meets its contract. The loop's invariant: the first k bits are appended.
-- Assumes nothing.
use mathlib.Core.Path.{◌≡◌}
use mathlib.Core.List.{◌++◌, map}
use lib.ListN.{take}
use Rattle.ladder.specs.Listing.{character}
use Rattle.ladder.specs.Plan.{step_bits}
use Rattle.loose.specs.PlanOf.{plan_of}
use Rattle.text.proofs.lines.Lines.bits.Given as goal

abbrev pub invariant-loop-k : goal.invariant-loop-k
invariant-loop-k l = l.self ≡ l.initial.self ++ take l.k (map character (step_bits (plan_of l.plan) l.s))
