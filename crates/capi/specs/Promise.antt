-- What the library's promises do not say as they stand: a yes as a number, and a body's place as two numbers.
-- Assumes nothing.
use Rattle.std.specs.Prelude.{ℕ, ◌≡◌, Bool, cond, List, length}
use Rattle.ladder.specs.Plan.{Plan}
use Rattle.ladder.specs.PlanFile.{body_place, body_in}
use Rattle.ladder.specs.Refusals.{refusing, unpack_refusal}
use Rattle.checking.specs.Promise.{CheckPromise}

-- Check, as the library promises it, with 1 for its yes and 0 for its no. With d 1, l 1, start order 1, bits 80, row 2 and the scalar 1:
-- refusal 0 and 1.
pub record CheckNumberPromise (p : Plan) (scalars : List ℕ) (refusal yes : ℕ) : Type 0 where
  pub said : Bool
  pub said_is : CheckPromise p scalars refusal said
  pub yes_is : yes ≡ cond said 1 0

-- The body's place, of any bytes: unpack's refusal, where the body begins, counted from 0, and how many bytes it has; on refusal zeros. Of
-- the 16 bytes 01 02 72 D8 02 03 07 00 04 00 00 00 64 6D 75 6C: refusal 0, offset 0, 4 bytes.
pub record BodyPlacePromise (file : List ℕ) (refusal offset size : ℕ) : Type 0 where
  pub refusal_is : refusal ≡ unpack_refusal file
  pub offset_is : offset ≡ refusing refusal 0 (body_place file)
  pub size_is : size ≡ refusing refusal 0 (length (body_in file))
