-- `trace_refusal` meets its contract: what is judged beside the plan is the buffer's length.
-- Assumes nothing.
use Rattle.std.proofs.Common.{rules}
use Rattle.ladder.specs.Numbers.{trace_length}
use Rattle.ladder.specs.Refusals.{shape, trace_refusal}
use Rattle.trace.proofs.call.trace_refusal.Goals as goal

pub returns : goal.returns
unfolding trace_refusal shape
returns c =
    let a = c.args in
    c.loose_refusal.ensures (shape a.out.now (trace_length a.plan.now.d a.plan.now.l)) (λ range r post. search rules)
