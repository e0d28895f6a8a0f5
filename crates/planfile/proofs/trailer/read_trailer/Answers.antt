-- `read_trailer` meets its contract: what is not refused has 12 bytes (`trailer_none`).
-- Assumes nothing.
use Rattle.std.proofs.Common.{ap, sym, ◌∙◌}
use Rattle.ladder.specs.PlanFile.{trailer_size}
use Rattle.ladder.specs.Refusals.{unless, trailer}
use Rattle.ladder.proofs.FileRefusals.{trailer_none}
use Rattle.planfile.proofs.trailer.read_trailer.Goals as goal

pub fields-requires : goal.fields-requires
unfolding trailer trailer_size
fields-requires c = ((trailer_none c.args.file.now).0 (ap (λ t. unless t 9) (sym c.marked.ensures) ∙ sym c.in_ok-unless.ensures)).0
