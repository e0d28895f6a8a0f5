-- What the inner contracts of the plan file need.
-- Assumes nothing.
use Rattle.std.specs.Prelude.{ℕ, ◌+◌, ◌≡◌, List}
use Rattle.ladder.specs.PlanFile.{d_in, l_in, answer_in, distance_in, body_place, body_in}

-- Four numbers are what the trailer of a file says.
pub record TrailerSays (file : List ℕ) (d l row distance : ℕ) : Type 0 where
  pub d_is : d ≡ d_in file
  pub l_is : l ≡ l_in file
  pub row_is : row ≡ answer_in file
  pub distance_is : distance ≡ distance_in file

-- The body, cut out of bytes that stand in memory from a block's offset on.
pub record BodyCut (file : List ℕ) (place : ℕ × ℕ) (part : List ℕ) (partPlace : ℕ × ℕ) : Type 0 where
  pub block_is : partPlace.0 ≡ place.0
  pub offset_is : partPlace.1 ≡ place.1 + body_place file
  pub bytes_are : part ≡ body_in file
