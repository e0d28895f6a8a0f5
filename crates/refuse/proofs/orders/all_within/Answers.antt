-- `all_within` meets its contract: the library's test of all elements says what the rules' says.
-- Assumes nothing.
use Rattle.std.proofs.Common.{rules}
use Rattle.ladder.specs.Refusals.{within}
use Rattle.ladder.proofs.Tests.{true_says, all_says, says_same}
use Rattle.refuse.proofs.orders.all_within.Goals as goal

pub returns : goal.returns
returns c = says_same (all_says _ 0 c.args.s.now (λ v. true_says (within 1 c.args.d v))) (search rules)
