-- `all_below` meets its contract: the library's test of all elements says what the rules' says.
-- Assumes nothing.
use Rattle.std.proofs.Common.{rules}
use Rattle.ladder.proofs.Tests.{ltb_says, all_says, says_same}
use Rattle.refuse.proofs.elements.all_below.Goals as goal

pub returns : goal.returns
returns c = says_same (all_says _ 0 c.args.s.now (λ e. ltb_says e c.args.m)) (search rules)
