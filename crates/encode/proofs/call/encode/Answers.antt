-- `encode` keeps its promise: on refusal and on accepted input by the laws that the function names (`keeping`). Here the end order that the
-- core is handed is an arrangement.
-- Assumes nothing.
use Rattle.encode.proofs.Kept.{house_arranged}
use Rattle.encode.proofs.call.encode.Goals as goal

pub encode_with-requires-clause-arrangement : goal.encode_with-requires-clause-arrangement
encode_with-requires-clause-arrangement c = house_arranged _ _ _ _ c.house_order-end.ensures
