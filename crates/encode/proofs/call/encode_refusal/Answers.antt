-- `encode_refusal` meets its contract: each answer is the first number of the row that applies (`judging`, which the function names), and the
-- scalars are looked at only where d and l are in range and all words are there.
-- Assumes nothing.
use Rattle.std.proofs.Common.{sym, ◌∙◌}
use Rattle.ladder.specs.Numbers.{scalars_length}
use Rattle.ladder.proofs.Tests.{eqb_says, unless_says}
use Rattle.refuse.proofs.Laws.{in_range}
use Rattle.encode.proofs.call.encode_refusal.Goals as goal

pub scalar_refusal-requires : goal.scalar_refusal-requires
unfolding scalars_length
scalar_refusal-requires c = record {
  range = in_range _ _ (sym c.in_ok-range.ensures);
  long = (unless_says 2 (eqb_says _ _)).0 (sym c.in_ok-shape.ensures) ∙ c.scalars_length.ensures;
}
