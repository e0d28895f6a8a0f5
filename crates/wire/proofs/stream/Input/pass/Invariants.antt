-- What the reader has lost, it has lost by the reads so far.
-- Assumes nothing.
use Rattle.wire.specs.Moved.{Loses}
use Rattle.wire.proofs.stream.Input.pass.Given as goal

abbrev pub invariant-loop : goal.invariant-loop
invariant-loop g l = Loses (g.R.Read.remaining l.initial.self.reader) (g.R.Read.remaining l.self.reader)
