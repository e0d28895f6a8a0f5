-- `scalars_below` meets its contract: the chain goes through the words of each scalar (`chunked`), whose top word decides
-- (`below_tested`).
-- Assumes nothing.
use Prim.Native.Nat.{◌<◌}
use mathlib.Core.Path.{refl, ◌∙◌}
use native.Mathlib.Omega.{arith}
use borrow.Author.Rules.{rules}
use borrow.Author.Tests.{tests}
use Rattle.std.proofs.iter.Serving.{serving}
use Rattle.std.proofs.lemmas.Iterator.Search.{all_from_yields_List}
use Rattle.ladder.specs.Numbers.{scalar_words}
use Rattle.scalars.proofs.Words.{some_words}
use Rattle.scalars.proofs.Chunks.{chunked}
use Rattle.scalars.proofs.Below.{top_fits, below_tested}
use Rattle.scalars.proofs.in_words.scalars_below.Goals as goal

pub all-requires-clause-callable : goal.all-requires-clause-callable
all-requires-clause-callable c =
    let some : 0 < c.scalar_words-k.result = some_words c.args.l _ c.scalar_words-k.ensures (omega arith) in
    grind serving

pub returns : goal.returns
returns c =
    let a = c.args in
    let k = scalar_words a.l in
    all_from_yields_List (top_fits a.l k) _ _ _ c.all.ensures.ran
    (chunked a.d k a.scalars.now (cc) (cc) (some_words a.l k refl (omega arith)) c.requires.long)
    (λ x b q h. search (rules, tests))
    ∙ below_tested a.d a.l a.scalars.now c.requires (λ i. omega (arith, c.type_inv.scalars i))
