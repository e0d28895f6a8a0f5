-- What `put_listing` leaves in the buffer that the program writes out.
-- Assumes nothing.
use Rattle.std.specs.Prelude.{ℕ, ◌≡◌, List, ◌++◌, length, drop}
use Rattle.ladder.specs.Listing.{listing_text}

-- Of any bytes, with the buffer as it comes and as it is left: their listing from the start on, its length, and past it the buffer as it
-- came. Of no bytes: length 10, `refused 9` and a newline.
pub record Written (file text : List ℕ) (size : ℕ) (textAfter : List ℕ) : Type 0 where
  pub size_is : size ≡ length (listing_text file)
  pub text_is : textAfter ≡ listing_text file ++ drop (length (listing_text file)) text
