-- `hex_length` meets its contract. The loop's invariant is `Above`: there are no digits but the lowest i.
-- Assumes nothing.
use native.Mathlib.Omega.{arith}
use borrow.Author.Rules.{rules}
use Rattle.text.proofs.HexDigits.{above_start, above_end}
use Rattle.text.proofs.hexadecimal.hex_length.Goals as goal

pub loop-i-init : goal.loop-i-init
loop-i-init c = above_start c.args.words.now (λ i. omega (arith, c.type_inv.words i)) (search rules)

pub returns : goal.returns
returns c = above_end c.loop-i.invariant (search rules)
