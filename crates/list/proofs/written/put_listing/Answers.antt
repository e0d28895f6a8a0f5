-- `put_listing` meets its contract: the listing's own lines, or the line of its refusal (Listed).
-- Assumes nothing.
use Rattle.std.proofs.Common.{refl, arith}
use Rattle.refusal.proofs.Laws.{number_positive}
use Rattle.list.proofs.Listed.{room_kept, line_written, lines_written}
use Rattle.list.proofs.written.put_listing.Goals as goal

pub put_refused-requires : goal.put_refused-requires
put_refused-requires c = room_kept c.in-Err.ensures c.requires (λ none. omega (arith, number_positive c.in-Err.refusal))

pub returns-in-Ok : goal.returns-in-Ok
returns-in-Ok c = lines_written c.in-Ok.ensures c.requires refl

pub returns-in-Err : goal.returns-in-Err
returns-in-Err c =
    line_written c.in-Err.ensures c.requires (λ none. omega (arith, number_positive c.in-Err.refusal)) c.put_refused.ensures.size c.put_refused.ensures.text
