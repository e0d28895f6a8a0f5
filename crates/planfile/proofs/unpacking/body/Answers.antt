-- `body` keeps its promise: a file that is not refused has its body before its trailer (`unpack_none`).
-- Assumes nothing.
use Rattle.std.proofs.Common.{sym}
use Rattle.ladder.proofs.Operations.{unpack_none}
use Rattle.planfile.proofs.Kept.{body_accepted, body_refused}
use Rattle.planfile.proofs.unpacking.body.Goals as goal

pub body-requires : goal.body-requires
body-requires c = rw c.in-Ok.ensures.same ((unpack_none _).0 (sym c.in-Ok.ensures.refusal)).before

pub returns-in-Ok : goal.returns-in-Ok
returns-in-Ok c = body_accepted c.in-Ok.ensures.refusal (rw c.in-Ok.ensures.same at c.body.ensures)

pub returns-in-Err : goal.returns-in-Err
returns-in-Err c = body_refused _ c.in-Err.ensures.refusal
