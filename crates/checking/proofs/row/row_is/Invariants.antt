-- `row_is` meets its contract: the entries and scalars that are left decide whether all are the same.
-- Assumes nothing.
use Rattle.std.proofs.Common.{◌≡◌}
use Rattle.std.specs.Iterator.Adapters.{zip_first, zip_second}
use Rattle.std.specs.Slice.Iter.{chunks_exact_rest, chunks_exact_size}
use Rattle.ladder.specs.Numbers.{value_words, scalar_words}
use Rattle.ladder.specs.Plan.{answer_row}
use Rattle.ladder.specs.Refusals.{same_numbers, scalars_in}
use Rattle.loose.specs.PlanOf.{plan_of}
use Rattle.checking.proofs.Left.{Left}
use Rattle.checking.proofs.row.row_is.Given as goal

abbrev pub invariant-loop-entry : goal.invariant-loop-entry
invariant-loop-entry l =
    (chunks_exact_size (zip_first l.entry-iterator) ≡ value_words l.fn.plan.l)
    × (chunks_exact_size (zip_second l.entry-iterator) ≡ scalar_words l.fn.plan.l)
    × Left (same_numbers (answer_row (plan_of l.fn.plan)) (scalars_in l.fn.plan.d l.fn.plan.l l.fn.scalars))
    (value_words l.fn.plan.l) (scalar_words l.fn.plan.l)
    (chunks_exact_rest (zip_first l.entry-iterator)) (chunks_exact_rest (zip_second l.entry-iterator))
