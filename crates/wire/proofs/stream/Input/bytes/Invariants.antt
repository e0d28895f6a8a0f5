-- What the reader has lost, it has lost by the reads so far.
-- Assumes nothing.
use Rattle.wire.specs.Moved.{Loses}
use Rattle.wire.proofs.stream.Input.bytes.Given as goal

abbrev pub invariant-loop-byte : goal.invariant-loop-byte
invariant-loop-byte g l = Loses (g.R.Read.remaining l.initial.self.reader) (g.R.Read.remaining l.self.reader)
