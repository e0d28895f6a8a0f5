-- `immarduzh_step` keeps its promise: the library's, of a walk state whose d the step keeps (InPlace).
-- Assumes nothing.
use Rattle.capi.proofs.InPlace.{in_place}
use Rattle.capi.proofs.walking.immarduzh_step.Goals as goal

pub returns : goal.returns
returns c =
    let told = c.stepped-refusal.ensures in
    in_place {next = c.stepped-refusal.result.1} (rw (told.number, told.walk) c.step.ensures)
