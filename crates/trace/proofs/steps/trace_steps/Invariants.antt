-- `trace_steps` meets its contract. The loop's invariant is `Tracing`: the bytes written, with those of the steps that are left, are the
-- trace's.
-- Assumes nothing.
use Rattle.walk.specs.WalkState.{walk_state}
use Rattle.trace.proofs.Tracing.{Tracing}
use Rattle.trace.proofs.steps.trace_steps.Given as goal

abbrev pub invariant-loop-i : goal.invariant-loop-i
invariant-loop-i l = Tracing (walk_state l.w) l.bits l.from l.to l.out l.i (walk_state l.walk)
