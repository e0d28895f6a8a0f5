-- What decode promises, on all input: the refusal of the table and every output.
-- Assumes nothing.
use Rattle.std.specs.Prelude.{ℕ, ◌≡◌, List}
use Rattle.ladder.specs.Plan.{Plan, values_in}
use Rattle.ladder.specs.Refusals.{refusing, decode_refusal}

-- Decode, of the plan p, with the values as they come and as they are left: the words of the answer row of the last matrix; on refusal
-- the values as they came. With d 1, l 1, start order 1, bits 80, row 1 and room for 1 word: refusal 0, value 2.
pub record DecodePromise (p : Plan) (values : List ℕ) (refusal : ℕ) (valuesAfter : List ℕ) : Type 0 where
  pub refusal_is : refusal ≡ decode_refusal p values
  pub values_are : valuesAfter ≡ refusing refusal values (values_in p)
