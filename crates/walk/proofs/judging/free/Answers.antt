-- `free` meets its contract: the library's tests of all elements say what the rules' say.
-- Assumes nothing.
use Rattle.std.proofs.Common.{rules, ◌≡◌, sym, ap, ◌∙◌, ◌&&◌}
use lib.Dec.{eqb}
use lib.IntN.{pos}
use Rattle.ladder.specs.Lists.{all}
use Rattle.ladder.specs.Refusals.{is_zero}
use Rattle.ladder.proofs.Tests.{eqb_says, is_zero_says, all_says, says_same, reworded}
use Rattle.walk.proofs.judging.free.Goals.{After-all}
use Rattle.walk.proofs.judging.free.Goals as goal

-- No column stands there.
columns : (c : After-all) → c.all.result ≡ all (eqb 0) c.args.columns.now
columns c = says_same (all_says (eqb 0) 0 c.args.columns.now (λ n. reworded (eqb_says 0 n) (sym, sym))) (search rules)

pub returns-then-all : goal.returns-then-all
returns-then-all c =
    says_same (all_says is_zero (pos 0) c.args.signs.now is_zero_says) (search rules)
    ∙ ap (λ t. t && all is_zero c.args.signs.now) (sym c.if-all.true ∙ columns (goal.at.returns-then-all c).After-all)

pub returns-else-all : goal.returns-else-all
returns-else-all c =
    c.if-all.false ∙ ap (λ t. t && all is_zero c.args.signs.now) (sym c.if-all.false ∙ columns (goal.at.returns-else-all c).After-all)
