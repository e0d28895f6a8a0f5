-- Numbers and their words: two numbers are the same exactly where all their words are.
-- Assumes nothing.
use Prim.Native.Nat.{ℕ, zero, suc, ◌+◌, ◌-◌, ◌*◌, ◌/◌, ◌%◌, ◌^◌, ◌≤◌, ◌<◌}
use mathlib.Core.Path.{◌≡◌, refl, sym, ap, ap₂, ◌∙◌}
use mathlib.Core.Bool.{Bool, true, false, false≢true}
use mathlib.Core.List.{List, [], ◌∷◌}
use borrow.Author.Tests.{eq-eqb, ne_eqb}
use native.Mathlib.Nat.{div-eq_of_lt, lt_of_lt_of_le}
use native.Mathlib.Decide.{dec_le}
use native.Mathlib.Omega.{arith}
use Rattle.std.proofs.Common.{get_or-take, get_or-drop}
use lib.Dec.{eqb}
use lib.ListN.{length, get_or, take, drop, get_or-eq_default}
use lib.Pow.{pow_mono}
use lib.Seq.{ext_get_or, length-take-le}
use Rattle.ladder.specs.Numbers.{number_of}
use Rattle.ladder.specs.Refusals.{same_numbers}
use Rattle.ladder.proofs.Numbers.{words_of-number_of, number_of_below}
use Rattle.ladder.proofs.Tests.{says_yes}
use Rattle.ladder.proofs.FileRefusals.{same_numbers_says}
use Rattle.values.proofs.Partly.{get_or-words_of}

-- A word of a number.
word_of : (ws : List ℕ) → ((i : ℕ) → get_or ws i 0 < 2 ^ 64) → (i : ℕ) → get_or ws i 0 ≡ number_of ws / 2 ^ (64 * i) % 2 ^ 64
word_of ws words i = go (dec_le (suc i) (length ws))
  where
    go : Dec (i < length ws) → get_or ws i 0 ≡ number_of ws / 2 ^ (64 * i) % 2 ^ 64
    go (yes h) =
        ap (λ l. get_or l i 0) (sym (words_of-number_of (length ws) ws refl words)) ∙ get_or-words_of (length ws) (number_of ws) i h
    go (no h) =
        let m : 64 * length ws ≤ 64 * i = omega arith in
        get_or-eq_default ws 0 (omega arith)
        ∙ sym (ap (λ q. q % 2 ^ 64) (div-eq_of_lt (lt_of_lt_of_le (number_of_below (length ws) ws refl words) (pow_mono m))))

-- Equal words make equal numbers ..
numbers_same : (a b : List ℕ) → ((i : ℕ) → get_or a i 0 ≡ get_or b i 0) → number_of a ≡ number_of b
unfolding number_of
numbers_same [] [] e = refl
numbers_same [] (w ∷ b) e = ap₂ (λ x y. x + 2 ^ 64 * y) (e zero) (numbers_same [] b (λ i. e (suc i)))
numbers_same (v ∷ a) [] e = ap₂ (λ x y. x + 2 ^ 64 * y) (e zero) (numbers_same a [] (λ i. e (suc i)))
numbers_same (v ∷ a) (w ∷ b) e = ap₂ (λ x y. x + 2 ^ 64 * y) (e zero) (numbers_same a b (λ i. e (suc i)))

-- .. and where the numbers are equal, all words are.
words_same : (a b : List ℕ) → ((i : ℕ) → get_or a i 0 < 2 ^ 64) → ((i : ℕ) → get_or b i 0 < 2 ^ 64) → number_of a ≡ number_of b
    → (i : ℕ) → get_or a i 0 ≡ get_or b i 0
words_same a b wa wb e i = word_of a wa i ∙ ap (λ m. m / 2 ^ (64 * i) % 2 ^ 64) e ∙ sym (word_of b wb i)

-- A test that holds exactly where two numbers are equal.
pub decided : (r : Bool) (m n : ℕ) → (r ≡ true → m ≡ n) → (m ≡ n → r ≡ true) → r ≡ eqb m n
decided true m n told passed = sym (eq-eqb m n (told refl))
decided false m n told passed = sym (ne_eqb m n (λ e. false≢true (passed e)))

-- A value has the words of a scalar and more: they are the same number exactly where the first are the scalar's and the rest is 0.
module _ (a b : List ℕ) (long : length b ≤ length a) where
  pub value_same : take (length b) a ≡ b → ((k : ℕ) → k < length (drop (length b) a) → get_or (drop (length b) a) k 0 ≡ 0) → number_of a ≡ number_of b
  value_same low high = numbers_same a b (λ i. at i (dec_le (suc i) (length b)))
    where
      at : (i : ℕ) → Dec (i < length b) → get_or a i 0 ≡ get_or b i 0
      at i (yes h) = sym (get_or-take (length b) a i 0 h) ∙ ap (λ l. get_or l i 0) low
      at i (no h) =
          let e : length b + (i - length b) ≡ i = omega arith in
          ap (λ n. get_or a n 0) (sym e) ∙ sym (get_or-drop (length b) a (i - length b) 0)
          ∙ go (dec_le (suc (i - length b)) (length (drop (length b) a)))
          ∙ sym (get_or-eq_default b 0 (omega arith))
        where
          go : Dec (i - length b < length (drop (length b) a)) → get_or (drop (length b) a) (i - length b) 0 ≡ 0
          go (yes l) = high (i - length b) l
          go (no l) = get_or-eq_default (drop (length b) a) 0 (omega arith)

  module _ (wa : (i : ℕ) → get_or a i 0 < 2 ^ 64) (wb : (i : ℕ) → get_or b i 0 < 2 ^ 64) (e : number_of a ≡ number_of b) where
    pub value_low : take (length b) a ≡ b
    value_low =
        ext_get_or 0 (take (length b) a) b (length-take-le (length b) a long)
        (λ i h. get_or-take (length b) a i 0 (omega (arith, length-take-le (length b) a long)) ∙ words_same a b wa wb e i)

    pub value_high : (k : ℕ) → k < length (drop (length b) a) → get_or (drop (length b) a) k 0 ≡ 0
    value_high k h =
        get_or-drop (length b) a k 0 ∙ words_same a b wa wb e (length b + k) ∙ get_or-eq_default b 0 (omega arith)

-- ---- lists of numbers

pub lists_same : (a b : List ℕ) → a ≡ b → true ≡ same_numbers a b
lists_same a b e = says_yes (same_numbers_says a b) e
