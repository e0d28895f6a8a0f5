-- `hex_digit` meets its contract. Rests on `hex_digit`: digit i stands in word i / 16.
-- Assumes nothing.
use native.Mathlib.Omega.{arith}
use Rattle.text.proofs.HexDigits.{hex_digit}
use Rattle.text.proofs.hexadecimal.hex_digit.Goals as goal

pub returns : goal.returns
returns c = hex_digit c.args.words.now (λ i. omega (arith, c.shared_slice_known-1.given i)) c.args.i
