-- `store_words` meets its contract: one store a value, each at its word.
-- Assumes nothing.
use Rattle.std.proofs.Common.{◌≡◌}
use Rattle.values.specs.Inner.{stored}
use Rattle.values.proofs.stored.store_words.Given as goal

abbrev pub invariant-loop-j : goal.invariant-loop-j
invariant-loop-j l = l.values ≡ stored l.j l.k l.w l.held l.initial.values
