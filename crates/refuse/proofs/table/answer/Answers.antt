-- `answer` meets its contract: the difference that the code forms says what the rules' range says.
-- Assumes nothing.
use Rattle.std.proofs.Common.{◌≡◌, ◌≤◌, ◌-◌, sym, ap, ◌∙◌, arith}
use Rattle.std.specs.Prelude.{suc, not}
use borrow.Author.Tests.{eq-eqb}
use Rattle.ladder.specs.Refusals.{unless, within, ROW, answer}
use Rattle.ladder.proofs.Tests.{leb_says, within_says, says_same, says_yes, says_no}
use Rattle.refuse.proofs.table.answer.Goals.{then-row-ne0, else-row-ne0}
use Rattle.refuse.proofs.table.answer.Goals as goal

pub returns : goal.returns
unfolding answer
returns c =
    let asked = within_says 1 (suc c.args.d) c.args.row in
    let test : c.if-row-ne0.unless ≡ within 1 (suc c.args.d) c.args.row =
    elim c.if-row-ne0.branch [
      | then-row-ne0 w ↦ w.unless-is ∙ says_same asked (
        λ low. let h : c.args.row - 1 ≤ c.args.d = (leb_says (c.args.row - 1) c.args.d).told (rw low tt) in (omega arith, omega arith),
        λ t. sym (says_yes (leb_says (c.args.row - 1) c.args.d) (omega arith)),
      )
      | else-row-ne0 w ↦ w.unless-is ∙ ap not (eq-eqb _ _ w.if-row-ne0.false) ∙ says_no asked (λ t. omega arith)
    ] in
    c.unless.ensures ∙ ap (λ t. unless t ROW) test
