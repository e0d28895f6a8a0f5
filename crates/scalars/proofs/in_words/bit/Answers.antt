-- `bit` meets its contract. Rests on `own_bit`: bit i of a number stands in its word i / 64.
-- Assumes nothing.
use native.Mathlib.Omega.{arith}
use Rattle.scalars.proofs.Words.{own_bit}
use Rattle.scalars.proofs.in_words.bit.Goals as goal

pub returns : goal.returns
returns c =
    let a = c.args in
    own_bit a.k a.scalars.now (λ i. omega (arith, c.type_inv.scalars i)) a.j a.i c.requires.0
