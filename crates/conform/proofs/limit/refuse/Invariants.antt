-- What the input has lost, it has lost by what is passed over so far.
-- Assumes nothing.
use Rattle.wire.specs.Moved.{Loses}
use Rattle.conform.proofs.limit.refuse.Given as goal

abbrev pub invariant-loop-count : goal.invariant-loop-count
invariant-loop-count g l = Loses (g.R.Read.remaining l.initial.input.reader) (g.R.Read.remaining l.input.reader)
