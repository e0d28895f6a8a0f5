-- The words of one scalar among those of all, and its bits.
-- Assumes nothing.
use Prim.Native.Nat.{ℕ, ◌+◌, ◌*◌, ◌/◌, ◌%◌, ◌^◌, ◌≤◌, ◌<◌}
use mathlib.Core.Path.{◌≡◌, sym, ap, ◌∙◌}
use mathlib.Core.List.{List}
use native.Mathlib.Omega.{arith}
use lib.ListN.{length, get_or}
use Rattle.ladder.specs.Numbers.{number_of, scalar_words}
use Rattle.ladder.proofs.Numbers.{own, own_below, own_at, own_within}
use Rattle.ladder.proofs.Fields.{number_field}
use Rattle.scalars.specs.Inner.{Shaped}

module _ (k : ℕ) (ws : List ℕ) (words : (i : ℕ) → get_or ws i 0 < 2 ^ 64) (j : ℕ) where
  -- Bit i of number j stands in its word i / 64.
  pub own_bit : (i : ℕ) → i / 64 < k → get_or ws (j * k + i / 64) 0 / 2 ^ (i % 64) % 2 ≡ number_of (own k ws j) / 2 ^ i % 2
  own_bit i h =
      let parts : i ≡ 64 * (i / 64) + i % 64 = omega arith in
      sym
      (ap (λ e. number_of (own k ws j) / 2 ^ e % 2) parts
      ∙ number_field (own k ws j) (own_below k ws words j) (i / 64) (i % 64) 1 (omega arith)
      ∙ ap (λ w. w / 2 ^ (i % 64) % 2) (own_at k ws j (i / 64) h))

pub words_within : (d l : ℕ) (ws : List ℕ) → Shaped d l ws → (k j : ℕ) → k ≡ scalar_words l → j < d → j * k + k ≤ length ws
words_within d l ws s k j e h = own_within d k (length ws) j (s.long ∙ ap (λ n. d * n) (sym e)) h

-- Bit i of l bits stands in one of the words.
pub word_within : (l k i : ℕ) → k ≡ scalar_words l → i < l → i / 64 < k
unfolding scalar_words
word_within l k i e h = omega arith

-- A scalar has some word.
pub some_words : (l k : ℕ) → k ≡ scalar_words l → 1 ≤ l → 0 < k
some_words l k e h = omega (arith, word_within l k 0 e (omega arith))
