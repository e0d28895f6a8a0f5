-- What is read again of what is held leaves the reader as it is.
-- Assumes nothing.
use Rattle.std.proofs.Common.{◌≡◌}
use Rattle.wire.proofs.stream.Input.words.Given as goal

abbrev pub invariant-loop-word : goal.invariant-loop-word
invariant-loop-word g l = l.self.reader ≡ l.initial.self.reader
