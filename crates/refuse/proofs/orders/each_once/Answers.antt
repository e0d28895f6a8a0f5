-- `each_once` meets its contract: the numbers tried are those that the rules' test asks for.
-- Assumes nothing.
use Rattle.std.proofs.Common.{sym, ap, ◌∙◌, arith, add-one}
use Rattle.ladder.specs.Lists.{count}
use Rattle.ladder.proofs.Tests.{eqb_says, each_once_says, says_yes, says_no, says_false}
use Rattle.refuse.proofs.orders.each_once.Goals as goal

pub returns-then-not-once : goal.returns-then-not-once
returns-then-not-once c =
    says_no (each_once_says c.args.d c.args.s.now) (λ all.
    says_false (eqb_says _ 1) (sym c.once.ensures ∙ c.if-not-once.true)
    (ap (λ n. count n c.args.s.now) (add-one c.loop-v.v) ∙ all c.loop-v.v (omega arith)))

pub returns : goal.returns
returns c = says_yes (each_once_says c.args.d c.args.s.now) (λ j h. c.loop-v.invariant j (omega arith))
