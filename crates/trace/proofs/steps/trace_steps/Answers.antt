-- `trace_steps` meets its contract. The loop's invariant is `Tracing`: the bytes written, with those of the steps that are left, are the
-- trace's.
-- Assumes nothing.
use native.Mathlib.Omega.{arith}
use Rattle.walk.specs.WalkState.{walk_state}
use Rattle.trace.proofs.Tracing.{bits_there, tracing_next, tracing_end}
use Rattle.trace.proofs.steps.trace_steps.Goals as goal

pub step_bits-r-requires : goal.step_bits-r-requires
unfolding walk_state
step_bits-r-requires c =
    let asks = c.requires in
    (asks.ready.high, (omega (arith, asks.last), bits_there asks _ (omega arith)))

pub loop-i-preserved : goal.loop-i-preserved
unfolding walk_state
loop-i-preserved c =
    tracing_next c.requires c.loop-i.invariant (omega arith) _ c.step_bits-r.ensures _ c.write_block-walk.ensures.0
    _ (omega arith) _ c.write_block-walk.auto.out c.write_block-walk.ensures.1

pub returns : goal.returns
unfolding walk_state
returns c = tracing_end c.requires c.loop-i.invariant (omega arith)
