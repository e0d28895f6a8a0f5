-- `plan` meets its contract: the start order lies within the body.
-- Assumes nothing.
use Rattle.std.proofs.Common.{sym}
use Rattle.ladder.proofs.FileRefusals.{distance_none}
use Rattle.planfile.proofs.Held.{plan_read, body_room}
use Rattle.planfile.proofs.trailer.Trailer.plan.Goals as goal

pub body-requires : goal.body-requires
body-requires c = ((distance_none _).0 (sym c.requires)).1

pub split_at-requires : goal.split_at-requires
split_at-requires c = body_room c.args.self.now.read (sym c.requires) c.body.ensures.bytes_are

pub returns : goal.returns
returns c = rw (c.split_at.ensures.front, c.split_at.ensures.back) (plan_read c.args.self.now.read c.body.ensures.bytes_are)
