-- `in_order` meets its contract: past the first two tests the rest decides.
-- Assumes nothing.
use Rattle.std.proofs.Common.{◌≡◌, true, false, sym, ◌∙◌, take, arith, length, rules}
use Rattle.std.proofs.lemmas.List.{take_rest}
use Rattle.ladder.specs.Refusals.{is_arrangement, all_units}
use Rattle.walk.proofs.Judged.{units_are}
use Rattle.walk.proofs.judging.in_order.Goals.{then-arrangement, else-arrangement}
use Rattle.walk.proofs.judging.in_order.Goals as goal

pub returns-then-units : goal.returns-then-units
returns-then-units c =
    let w = c.args.w in
    let long : length w.signs ≡ 8 = search rules in
    let used : (is_arrangement w.d (take w.d w.order) ≡ true) × (all_units w.d w.signs ≡ true) =
    elim c.if-arrangement.branch [
      | then-arrangement b ↦ (
        sym c.arrangement.ensures ∙ b.if-arrangement.true,
        sym (units_are w.d w.signs (omega arith)) ∙ sym b.units.ensures ∙ sym b.value-is ∙ c.if-units.true,
      )
      | else-arrangement b ↦ absurd (let no : true ≡ false = sym c.if-units.true ∙ b.value-is ∙ b.if-arrangement.false in (cc))
    ] in
    rw (used.0, used.1) (rw (take_rest w.order w.d, take_rest w.signs w.d) at c.free.ensures)
