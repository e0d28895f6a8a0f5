-- What check promises, on all input: the refusal of the table and the answer.
-- Assumes nothing.
use Rattle.std.specs.Prelude.{ℕ, ◌≡◌, List, Bool, false}
use Rattle.ladder.specs.Plan.{Plan, answer_row}
use Rattle.ladder.specs.Refusals.{refusing, check_refusal, scalars_in, same_numbers}

-- Check, of the plan p against scalars in lent words: yes exactly when the answer row of the last matrix is the scalars; on refusal no.
-- With d 1, l 1, start order 1, bits 80 and row 2: refusal 0 and yes for the scalar 1; refusal 4 and no for 2.
pub record CheckPromise (p : Plan) (scalars : List ℕ) (refusal : ℕ) (yes : Bool) : Type 0 where
  pub refusal_is : refusal ≡ check_refusal p scalars
  pub yes_is : yes ≡ refusing refusal false (same_numbers (answer_row p) (scalars_in p.d p.l scalars))
