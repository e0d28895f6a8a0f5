-- `units` meets its contract: the library's test of all elements says what the rules' says.
-- Assumes nothing.
use Rattle.std.proofs.Common.{rules}
use lib.IntN.{pos}
use Rattle.ladder.specs.Refusals.{is_unit}
use Rattle.ladder.proofs.Tests.{true_says, all_says, says_same}
use Rattle.walk.proofs.Judged.{unit_is}
use Rattle.walk.proofs.judging.units.Goals as goal

pub returns : goal.returns
returns c = says_same (all_says is_unit (pos 0) c.args.signs.now (λ s. true_says (is_unit s))) (search (rules, unit_is))
