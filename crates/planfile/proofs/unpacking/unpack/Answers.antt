-- `unpack` keeps its promise, on refusal and on accepted input.
-- Assumes nothing.
use Rattle.std.proofs.lemmas.Result.{err_from_is_err_and}
use Rattle.planfile.proofs.Kept.{unpack_refused, unpack_accepted}
use Rattle.planfile.proofs.unpacking.unpack.Goals as goal

pub returns-in_err-trailer : goal.returns-in_err-trailer
returns-in_err-trailer c =
    let gave = err_from_is_err_and c.from_residual.result c.from_residual.ensures.1 in
    rw (gave.1, gave.2) (unpack_refused _ _ c.in_err-trailer.ensures.refusal)

pub returns : goal.returns
returns c = unpack_accepted _ _ _ c.in_ok-trailer.ensures.refusal (rw c.in_ok-trailer.ensures.same at c.in_ok-trailer.trailer.read)
