-- `marked` meets its contract: what the library compares is what the rules do (`same_bytes`).
-- Assumes nothing.
use Rattle.std.proofs.Common.{◌&&◌, ap, sym, ◌∙◌}
use borrow.Author.Tests.{le-leb}
use Rattle.ladder.specs.PlanFile.{trailer_size, mark_in, mark}
use Rattle.ladder.specs.Refusals.{same_numbers}
use Rattle.planfile.proofs.Marks.{same_bytes}
use Rattle.planfile.proofs.trailer.marked.Goals as goal

pub returns-then-file-ge-TRAILER_SIZE : goal.returns-then-file-ge-TRAILER_SIZE
unfolding trailer_size mark_in mark
returns-then-file-ge-TRAILER_SIZE c =
    c.ends_with.ensures.value ∙ same_bytes _ _
    ∙ ap (λ t. t && same_numbers (mark_in c.args.file.now) mark) (sym (le-leb _ _ c.if-file-ge-TRAILER_SIZE.true))
