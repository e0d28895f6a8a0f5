-- `decode_refusal` meets its contract: what is judged beside the plan is the values' length.
-- Assumes nothing.
use Rattle.std.proofs.Common.{rules}
use Rattle.ladder.specs.Numbers.{values_length}
use Rattle.ladder.specs.Refusals.{shape, decode_refusal}
use Rattle.decode.proofs.call.decode_refusal.Goals as goal

pub returns : goal.returns
unfolding decode_refusal shape
returns c =
    let a = c.args in
    c.loose_refusal.ensures (shape a.values.now (values_length a.plan.now.d a.plan.now.l)) (λ range r post. search rules)
