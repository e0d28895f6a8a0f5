-- Scalars in lent words, and one bit of each gathered into a number.
-- Assumes nothing.
use Rattle.std.specs.Prelude.{ℕ, zero, ◌+◌, ◌*◌, ◌/◌, ◌%◌, ◌^◌, ◌<◌, ◌≡◌, List, [], ◌∷◌, length, get_or}
use Rattle.ladder.specs.Numbers.{numbers_of, scalar_words}
use Rattle.refuse.specs.Inner.{InRange}

-- d and l are in range, and there are as many words as d scalars of l bits have.
pub record Shaped (d l : ℕ) (words : List ℕ) : Type 0 where
  pub range : InRange d l
  pub long : length words ≡ d * scalar_words l

-- And every scalar is below 2^l.
pub record Fitting (d l : ℕ) (words : List ℕ) : Type 0 where
  pub shaped : Shaped d l words
  pub below : (j : ℕ) → j < d → get_or (numbers_of d (scalar_words l) words) j 0 < 2 ^ l

-- Bit i of each number, counted from the lowest, as one number: that of number j at weight 2^j. Of 1, 2, 3, bits 0 are 5.
unfoldable pub gathered : List ℕ → ℕ → ℕ
gathered [] i = zero
gathered (n ∷ ns) i = gathered ns i * 2 + n / 2 ^ i % 2
