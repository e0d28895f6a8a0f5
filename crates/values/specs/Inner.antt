-- What the inner contracts of decoding by a walk need.
-- Assumes nothing.
use Rattle.std.specs.Prelude.{◌≡◌, ℕ, zero, suc, pred, ◌+◌, ◌*◌, ◌/◌, ◌%◌, ◌^◌, ◌<◌, ◌≤◌, cond, List, map, length, take, ◌==◌, slice_index, slice_set}
use Rattle.ladder.specs.Lists.{tabulate}
use Rattle.ladder.specs.Numbers.{number_of, numbers_of, words_of, words_of_all, value_words}
use Rattle.ladder.specs.Plan.{Plan, start_order, step_bits, end_order}
use Rattle.ladder.specs.Inner.Decoding.{walked}
use Rattle.bits.specs.Ready.{Columns}

-- The words with word w of each of the first d values, k words each, replaced by the number held for its column.
unfoldable pub stored : ℕ → ℕ → ℕ → List ℕ → List ℕ → List ℕ
stored zero k w held values = values
stored (suc j) k w held values = slice_set (stored j k w held values) (j * k + w) (slice_index held j)

-- With `left` digits to come: where a word is full the held words are stored.
unfoldable pub stored_then : ℕ → ℕ → ℕ → List ℕ → List ℕ → List ℕ
stored_then d k left held values = cond (left % 64 == 0) (stored d k (left / 64) held values) values

-- A word with one digit more at its end: its last digit, turned where the bit is 1. The top digit is lost.
unfoldable pub pushed : ℕ → ℕ → ℕ
pushed b word = (2 * word + (word + b) % 2) % 2 ^ 64

-- Each column's word has one digit more, by the bit at the column's place in the order S.
pub record Pushed (d : ℕ) (S r held after : List ℕ) : Type 0 where
  pub long : length after ≡ d
  pub words : (k : ℕ) → k < d → slice_index after (slice_index S k) ≡ pushed (slice_index r k) (slice_index held (slice_index S k))

-- What the walk through a plan leaves: its end order, and each column's lower number in words.
pub record Lowered (p : Plan) (order values : List ℕ) : Type 0 where
  pub columns : Columns p.d order
  pub last : map pred (take p.d order) ≡ end_order p
  pub lower : values ≡ words_of_all (value_words p.l) (tabulate p.d (walked p.d (start_order p) (step_bits p) p.l))

-- The words of a value, one more where its last digit and the count of its column differ.
unfoldable pub raised_one : ℕ → List ℕ → List ℕ
raised_one above value = words_of (length value) (number_of value + cond (number_of value % 2 == above) 0 1)

-- What raising asks: d values of k words, each of which can take one more, and a count for each column.
pub record Raisable (d k : ℕ) (above values : List ℕ) : Type 0 where
  pub d_high : d ≤ 8
  pub k_low : 1 ≤ k
  pub k_high : k ≤ 10
  pub long : length values ≡ d * k
  pub few : (j : ℕ) → j < d → slice_index above j ≤ 1
  pub room : (j : ℕ) → j < d → slice_index (numbers_of d k values) j + 1 < 2 ^ (64 * k)

-- The values, each one more where its last digit and the count of its column differ.
unfoldable pub raised : ℕ → ℕ → List ℕ → List ℕ → List ℕ
raised d k above values =
    tabulate d (λ j. slice_index (numbers_of d k values) j + (slice_index (numbers_of d k values) j % 2 + slice_index above j) % 2)
