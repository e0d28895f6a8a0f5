-- What the listing promises, on all input.
-- Assumes nothing.
use Rattle.std.specs.Prelude.{ℕ, ◌≡◌, List, ◌++◌, length, drop}
use Rattle.ladder.specs.PlanFile.{plan_in}
use Rattle.ladder.specs.Listing.{plan_text}
use Rattle.ladder.specs.Refusals.{refusing, listing_refusal}

-- The listing, of any bytes, with the buffer as it comes and as it is left: the lines of the plan that they hold from the start on, their
-- length, and past them the buffer as it came; on refusal length 0, and the buffer as it came. Of the 16 bytes 01 02 72 D8 02 03 07 00 04
-- 00 00 00 64 6D 75 6C and a buffer of 8,589: refusal 0, length 68. Of no bytes: refusal 9.
pub record ListingPromise (file text : List ℕ) (refusal size : ℕ) (textAfter : List ℕ) : Type 0 where
  pub refusal_is : refusal ≡ listing_refusal file text
  pub length_is : size ≡ refusing refusal 0 (length (plan_text (plan_in file)))
  pub text_is :
      textAfter ≡ refusing refusal text (plan_text (plan_in file) ++ drop (length (plan_text (plan_in file))) text)
