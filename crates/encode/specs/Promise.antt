-- What encode promises, on all input: the refusal of the table, every answer and every output.
-- Assumes nothing.
use Rattle.std.specs.Prelude.{ℕ, ◌≡◌, List}
use Rattle.ladder.specs.Encoding.{encode}
use Rattle.ladder.specs.Refusals.{refusing, scalars_in, encode_refusal}

-- Encode, of d scalars of l bits in lent words, with the start order and the bits as they come and as they are left: what is written
-- and answered is the plan of the scalars; on refusal row 0, and both outputs as they came. With d 2, l 2, words 2, 1 and room for 2
-- places and 1 byte: refusal 0, row 2, start order 1 2, bits B0.
pub record EncodePromise (d l : ℕ) (scalars start bits : List ℕ) (refusal row : ℕ) (startAfter bitsAfter : List ℕ) : Type 0 where
  pub refusal_is : refusal ≡ encode_refusal d l scalars start bits
  pub row_is : row ≡ refusing refusal 0 (encode d l (scalars_in d l scalars)).answer
  pub start_is : startAfter ≡ refusing refusal start (encode d l (scalars_in d l scalars)).start
  pub bits_are : bitsAfter ≡ refusing refusal bits (encode d l (scalars_in d l scalars)).bits
