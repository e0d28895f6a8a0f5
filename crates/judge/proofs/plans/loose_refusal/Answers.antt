-- `loose_refusal` meets its contract: each answer is the first number of the row (`loose_row`) that applies; the call's judge is asked for a d and an l
-- in range.
-- Assumes nothing.
use Rattle.std.proofs.Common.{arith, sym, ◌∙◌}
use Rattle.ladder.proofs.Tests.{eqb_says, unless_says}
use Rattle.refusal.proofs.Laws.{then_refused, then_passed}
use Rattle.refuse.proofs.Laws.{in_range}
use Rattle.judge.proofs.Judged.{loose_row}
use Rattle.judge.proofs.plans.loose_refusal.Goals as goal

pub returns-in_err-range : goal.returns-in_err-range
returns-in_err-range g c n gives = grind (arith, loose_row, then_refused, then_passed)

pub returns-in_err-shape : goal.returns-in_err-shape
returns-in_err-shape g c n gives = grind (arith, loose_row, then_refused, then_passed)

pub bits_length-requires : goal.bits_length-requires
bits_length-requires g c = in_range _ _ (sym c.in_ok-range.ensures)

pub returns-in_err-shape-2 : goal.returns-in_err-shape-2
returns-in_err-shape-2 g c n gives = grind (arith, loose_row, then_refused, then_passed)

pub others-requires : goal.others-requires
others-requires g c = c.requires (in_range _ _ (sym c.in_ok-range.ensures))

pub returns-in_err-others : goal.returns-in_err-others
returns-in_err-others g c n gives =
    let gave = gives (in_range _ _ (sym c.in_ok-range.ensures)) _ c.others.ensures in
    grind (arith, loose_row, then_refused, then_passed)

pub read_refusal-requires : goal.read_refusal-requires
read_refusal-requires g c = (in_range _ _ (sym c.in_ok-range.ensures), (unless_says 2 (eqb_says _ _)).0 (sym c.in_ok-shape-2.ensures) ∙ c.bits_length.ensures)

pub returns : goal.returns
returns g c n gives =
    let gave = gives (in_range _ _ (sym c.in_ok-range.ensures)) _ c.others.ensures in
    grind (arith, loose_row, then_refused, then_passed)
