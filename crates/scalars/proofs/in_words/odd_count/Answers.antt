-- `odd_count` meets its contract: the chain goes through the words of each scalar (`chunked`), and counts those that are odd (`odds_are`).
-- Assumes nothing.
use Prim.Native.Nat.{◌<◌}
use mathlib.Core.Path.{refl, ◌∙◌}
use native.Mathlib.Omega.{arith}
use borrow.Author.Rules.{rules}
use borrow.Author.Tests.{tests}
use Rattle.std.proofs.iter.Serving.{serving}
use Rattle.std.proofs.lemmas.Iterator.Consumers.{count_from_yields_List, YieldsList-from_filter}
use Rattle.ladder.specs.Numbers.{scalar_words}
use Rattle.scalars.proofs.Words.{some_words}
use Rattle.scalars.proofs.Chunks.{odd, chunked, odds_are}
use Rattle.scalars.proofs.in_words.odd_count.Goals as goal

pub count-requires-clause-can : goal.count-requires-clause-can
count-requires-clause-can c =
    let some : 0 < c.scalar_words.result = some_words c.args.l _ c.scalar_words.ensures (omega arith) in
    grind serving

pub returns : goal.returns
returns c =
    let a = c.args in
    let k = scalar_words a.l in
    count_from_yields_List c.filter.result c.count.result c.count.ensures.ran
    (YieldsList-from_filter _ odd
    (chunked a.d k a.scalars.now (cc) (cc) (some_words a.l k refl (omega arith)) c.requires.long)
    c.filter.ensures.closure (λ x b q h. search (rules, tests)))
    ∙ odds_are a.d k a.scalars.now
