-- `hexadecimal` meets its contract. Rests on `hex_next`: the digit that the code takes is the character's.
-- Assumes nothing.
use native.Mathlib.Omega.{arith}
use Rattle.text.proofs.HexDigits.{hex_within}
use Rattle.text.proofs.lines.Lines.hexadecimal.Goals as goal

pub hex_digit-requires : goal.hex_digit-requires
hex_digit-requires c =
    omega (arith, hex_within c.args.words.now (λ i. omega (arith, c.type_inv.words i)) c.requires.0, c.hex_length-i.ensures)
