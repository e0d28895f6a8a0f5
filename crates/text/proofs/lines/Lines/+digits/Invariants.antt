-- `digits` meets its contract. It recurses on what the number has past its last digit.
-- Assumes nothing.
use Rattle.text.proofs.lines.Lines.+digits.Given as goal

abbrev pub decreases-digits : goal.decreases-digits
decreases-digits l = l.n
