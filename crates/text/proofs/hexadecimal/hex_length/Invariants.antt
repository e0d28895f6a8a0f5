-- `hex_length` meets its contract. The loop's invariant is `Above`: there are no digits but the lowest i.
-- Assumes nothing.
use Rattle.text.proofs.HexDigits.{Above}
use Rattle.text.proofs.hexadecimal.hex_length.Given as goal

abbrev pub invariant-loop-i : goal.invariant-loop-i
invariant-loop-i l = Above l.words l.i
