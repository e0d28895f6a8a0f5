-- `pack_refusal` meets its contract: what is judged beside the plan is the file's length.
-- Assumes nothing.
use Rattle.std.proofs.Common.{rules}
use Rattle.ladder.specs.PlanFile.{file_length}
use Rattle.ladder.specs.Refusals.{shape, pack_refusal}
use Rattle.planfile.proofs.packing.pack_refusal.Goals as goal

pub returns : goal.returns
unfolding pack_refusal shape
returns c =
    let a = c.args in
    c.loose_refusal.ensures (shape a.file.now (file_length a.plan.now.d a.plan.now.l)) (λ range r post. search rules)
