-- The refusal of a loose plan as its judge forms it: d and l together, then each shape.
-- Assumes nothing.
use Rattle.std.proofs.Common.{◌≡◌, ℕ, sym, ◌∙◌, length}
use lib.Dec.{eqb}
use Rattle.ladder.specs.Numbers.{start_length, bits_length}
use Rattle.ladder.specs.Plan.{Plan}
use Rattle.ladder.specs.Refusals.{◌then◌, unless, SHAPE, dim, len, shape, read_refusal, loose_refusal}
use Rattle.ladder.proofs.Chains.{loose_chain}
use Rattle.ladder.proofs.Tests.{then_assoc}

pub loose_row : (p : Plan) (n : ℕ)
    → loose_refusal p n
    ≡ (dim p.d then len p.l) then unless (eqb (length p.start) p.d) SHAPE then unless (eqb (length p.bits) (bits_length p.d p.l)) SHAPE
    then n then read_refusal p
unfolding shape start_length
loose_row p n = loose_chain p n ∙ sym (then_assoc (dim p.d) (len p.l) _)
