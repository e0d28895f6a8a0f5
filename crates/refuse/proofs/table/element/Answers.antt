-- `element` meets its contract: a modulus of 0 has every word, and of any other the test of all elements decides.
-- Assumes nothing.
use Rattle.std.proofs.Common.{sym, ap, ◌∙◌}
use borrow.Author.Tests.{eq-eqb}
use Rattle.ladder.specs.Refusals.{unless, ELEMENT}
use Rattle.refuse.proofs.Laws.{unless_yes, element_any, element_some}
use Rattle.refuse.proofs.table.element.Goals.{then-m-eq0, else-m-eq0}
use Rattle.refuse.proofs.table.element.Goals as goal

pub returns : goal.returns
returns c =
    c.unless.ensures
    ∙ elim c.if-m-eq0.branch [
      | then-m-eq0 w ↦ unless_yes _ ELEMENT (w.unless-is ∙ eq-eqb _ _ w.if-m-eq0.true) ∙ sym (element_any _ _ w.if-m-eq0.true)
      | else-m-eq0 w ↦ ap (λ t. unless t ELEMENT) (w.unless-is ∙ w.all_below.ensures) ∙ sym (element_some _ _ w.if-m-eq0.false)
    ]
