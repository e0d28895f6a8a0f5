-- Whether a scalar is below 2^l is decided by its top word.
-- Assumes nothing.
use Prim.Native.Nat.{ℕ, ◌+◌, ◌-◌, ◌*◌, ◌/◌, ◌%◌, ◌^◌, ◌≤◌, ◌<◌}
use mathlib.Core.Path.{◌≡◌, sym, ap, ◌∙◌}
use mathlib.Core.Logic.{◌↔◌}
use mathlib.Core.Bool.{Bool}
use mathlib.Core.List.{List}
use native.Mathlib.Nat.{pow-succ', div-lt_iff_lt-mul}
use native.Mathlib.Decide.{dec_lt}
use native.Mathlib.Omega.{arith}
use borrow.Author.Tests.{lt-ltb, le-ltb, le-leb, lt-leb}
use lib.ListN.{length, get_or, drop, length-drop}
use lib.Dec.{ltb, leb}
use lib.Seq.{length-take-le}
use lib.Pow.{pow_pos}
use Rattle.std.specs.List.{list_all}
use Rattle.ladder.specs.Lists.{all}
use Rattle.ladder.specs.Numbers.{number_of, numbers_of, scalar_words}
use Rattle.ladder.proofs.Numbers.{own, own_below, own_within}
use Rattle.ladder.proofs.Fields.{number_top}
use Rattle.scalars.specs.Inner.{Shaped}
use Rattle.scalars.proofs.Chunks.{chunks, all-tested}

-- The top word of k has nothing past its share of l bits.
abbrev pub top_fits : ℕ → ℕ → List ℕ → Bool
top_fits l k ws = leb (get_or ws (k - 1) 0 / 2 ^ ((l - 1) % 64)) 1

module _ (l : ℕ) (ws : List ℕ) (low : 1 ≤ l) (long : length ws ≡ scalar_words l) (words : (i : ℕ) → get_or ws i 0 < 2 ^ 64) where
  abbrev top : ℕ
  top = get_or ws (scalar_words l - 1) 0 / 2 ^ ((l - 1) % 64)

  parts : l - 1 ≡ 64 * (scalar_words l - 1) + (l - 1) % 64
  parts = unfold scalar_words in omega arith

  some : 1 ≤ scalar_words l
  some = unfold scalar_words in omega arith

  -- What the number has past l - 1 bits is what its top word has past (l - 1) % 64.
  above : number_of ws / 2 ^ (l - 1) ≡ top
  above =
      ap (λ e. number_of ws / 2 ^ e) parts
      ∙ number_top ws words (scalar_words l - 1) ((l - 1) % 64) (omega (arith, some))

  twice : 2 * 2 ^ (l - 1) ≡ 2 ^ l
  twice = sym (pow-succ' 2 (l - 1)) ∙ ap (λ e. 2 ^ e) (omega arith)

  decided : number_of ws / 2 ^ (l - 1) < 2 ↔ number_of ws < 2 * 2 ^ (l - 1)
  decided = div-lt_iff_lt-mul (pow_pos (l - 1))

  too_large : 1 < top → 2 ^ l ≤ number_of ws
  too_large h = grind (arith, above, twice, decided.1)

  -- So the top word decides whether the number is below 2^l.
  top_decides : top_fits l (scalar_words l) ws ≡ ltb (number_of ws) (2 ^ l)
  top_decides = go (dec_lt 1 top)
    where
      go : Dec (1 < top) → top_fits l (scalar_words l) ws ≡ ltb (number_of ws) (2 ^ l)
      go (yes large) = lt-leb top 1 large ∙ sym (le-ltb (number_of ws) (2 ^ l) (too_large large))
      go (no small) = le-leb top 1 (omega arith) ∙ sym (lt-ltb (number_of ws) (2 ^ l) (omega (arith, above, twice, decided.0)))

-- All scalars are below 2^l where all top words say so.
pub below_tested : (d l : ℕ) (ws : List ℕ) → Shaped d l ws → ((i : ℕ) → get_or ws i 0 < 2 ^ 64)
    → list_all (top_fits l (scalar_words l)) (chunks d (scalar_words l) ws) ≡ all (λ n. ltb n (2 ^ l)) (numbers_of d (scalar_words l) ws)
unfolding numbers_of
below_tested d l ws shape words =
    all-tested d (own k ws) (top_fits l k) (λ n. ltb n (2 ^ l))
    (λ j h. top_decides l (own k ws j) shape.range.l_low (full j h) (own_below k ws words j))
  where
    k : ℕ
    k = scalar_words l

    full : (j : ℕ) → j < d → length (own k ws j) ≡ k
    full j h = length-take-le k (drop (j * k) ws) (omega (arith, length-drop (j * k) ws, own_within d k (length ws) j shape.long h))
