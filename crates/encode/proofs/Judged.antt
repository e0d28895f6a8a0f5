-- The refusal of encode as its judge forms it: d and l together, then each shape.
-- Assumes nothing.
use Rattle.std.proofs.Common.{◌≡◌, ℕ, List, sym, ◌∙◌, length}
use lib.Dec.{eqb}
use Rattle.ladder.specs.Numbers.{scalar_words, scalars_length, numbers_of, start_length, bits_length}
use Rattle.ladder.specs.Refusals.{◌then◌, unless, SHAPE, dim, len, shape, scalar, scalars_in, encode_refusal}
use Rattle.ladder.proofs.Chains.{encode_chain}
use Rattle.ladder.proofs.Tests.{then_assoc}
use Rattle.refusal.proofs.Laws.{then_refused, then_passed}
use Rattle.refuse.proofs.Laws.{in_range}

pub encode_row : (d l : ℕ) (scalars start bits : List ℕ)
    → encode_refusal d l scalars start bits
    ≡ (dim d then len l) then unless (eqb (length scalars) (scalars_length d l)) SHAPE then unless (eqb (length start) d) SHAPE
    then unless (eqb (length bits) (bits_length d l)) SHAPE then scalar l (numbers_of d (scalar_words l) scalars)
unfolding shape start_length scalars_in
encode_row d l scalars start bits = encode_chain d l scalars start bits ∙ sym (then_assoc (dim d) (len l) _)

-- What a judge that goes along this row asks of these laws.
pub ruleset judging = (encode_row, in_range, then_refused, then_passed)
