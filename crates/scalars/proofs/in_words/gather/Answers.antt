-- `gather` meets its contract. Rests on one scalar more in front (`gathered_more`). Past the length of the scalars, which are below
-- 2^l, every bit is 0 (`gathered_past`).
-- Assumes nothing.
use mathlib.Core.Path.{sym}
use native.Mathlib.Omega.{arith}
use Rattle.ladder.specs.Numbers.{numbers_of, scalar_words}
use Rattle.ladder.proofs.Numbers.{length-numbers_of}
use Rattle.scalars.proofs.Words.{words_within, word_within}
use Rattle.scalars.proofs.Gathered.{gathered_past, gathered_none, gathered_more}
use Rattle.scalars.proofs.in_words.gather.Goals as goal

pub returns-then-i-l : goal.returns-then-i-l
returns-then-i-l c =
    let a = c.args in
    let ks = numbers_of a.d (scalar_words a.l) a.scalars.now in
    sym (gathered_past ks a.i
    (λ j h. rw c.if-i-l.true (c.requires.fitting.below j
    (omega (arith, length-numbers_of a.d (scalar_words a.l) a.scalars.now)))))

pub loop-j-init : goal.loop-j-init
loop-j-init c =
    let a = c.args in
    gathered_none a.d c.scalar_words-k.result a.scalars.now a.i

pub bit-requires : goal.bit-requires
bit-requires c =
    let a = c.args in (
      word_within a.l _ a.i c.scalar_words-k.ensures (omega arith),
      words_within a.d a.l a.scalars.now c.requires.fitting.shaped _ _
          c.scalar_words-k.ensures (omega arith),
    )

pub loop-j-preserved : goal.loop-j-preserved
loop-j-preserved c =
    let a = c.args in
    gathered_more a.d c.scalar_words-k.result a.scalars.now c.loop-j.j
    (omega arith) (omega arith) a.i c.loop-j.bits c.bit.result c.loop-j.invariant c.bit.ensures
