-- Laws of words: how they are stored, the digit of a sign, a carry.
-- Assumes nothing.
use Rattle.std.proofs.Common.{◌≡◌, ℕ, zero, suc, ◌+◌, ◌*◌, ◌%◌, ◌^◌, ◌<◌, ◌≤◌, ◌≢◌, List, [], ◌∷◌, length, get_or, set, ℤ, pos, negsuc, sym, refl, ap, ◌∙◌, subst, le_of_suc-le-suc, not-suc-le-zero, add-mul, one-mul, zero-mul, mul-add, mul_left_comm, add-one, arith, length-set, get_or-set_other, get_or-set_same}
use native.Mathlib.Decide.{ℕ_discrete}
use lib.Arith.{digits_lt}
use Rattle.ladder.specs.Inner.Decoding.{digit}
use Rattle.ladder.specs.Numbers.{number_of, words_of}
use Rattle.ladder.proofs.Numbers.{pow_words, words_of-number_of}
use Rattle.values.specs.Inner.{stored}

-- A store at word i changes the number by what was put there, less what stood there, at the word's weight.
number_of-set : (ws : List ℕ) (i v : ℕ) → i < length ws
    → number_of (set ws i v) + get_or ws i 0 * 2 ^ (64 * i) ≡ number_of ws + v * 2 ^ (64 * i)
unfolding number_of
number_of-set [] i v h = absurd (not-suc-le-zero h)
number_of-set (w ∷ ws) zero v h = omega arith
number_of-set (w ∷ ws) (suc i) v h =
    let B = 2 ^ 64 in
    let P = 2 ^ (64 * i) in
    let g = get_or ws i 0 in
    let e = number_of-set ws i v (le_of_suc-le-suc h) in
    let p = pow_words i in
    let left : B * number_of (set ws i v) + B * (g * P) ≡ B * number_of ws + B * (v * P) =
    sym (mul-add B (number_of (set ws i v)) (g * P)) ∙ ap (λ n. B * n) e ∙ mul-add B (number_of ws) (v * P) in
    let gp : g * 2 ^ (64 * suc i) ≡ B * (g * P) = ap (λ n. g * n) p ∙ mul_left_comm g B P in
    let vp : v * 2 ^ (64 * suc i) ≡ B * (v * P) = ap (λ n. v * n) p ∙ mul_left_comm v B P in
    omega (arith, left, gp, vp)

-- A digit is 0 or 1.
pub digit_small : (s : ℤ) → digit s ≤ 1
unfolding digit
digit_small (pos n) = omega arith
digit_small (negsuc n) = omega arith

-- Words of 64 bits stay such under a store of one.
words_set : (l : List ℕ) (i v : ℕ) → i < length l → v < 2 ^ 64 → ((k : ℕ) → get_or l k 0 < 2 ^ 64) → (k : ℕ) → get_or (set l i v) k 0 < 2 ^ 64
words_set l i v h b words k = go (ℕ_discrete k i)
  where
    go : Dec (k ≡ i) → get_or (set l i v) k 0 < 2 ^ 64
    go (yes q) = subst (λ n. n < 2 ^ 64) (sym (ap (λ m. get_or (set l i v) m 0) q ∙ get_or-set_same l i v 0 h)) b
    go (no q) = subst (λ n. n < 2 ^ 64) (sym (get_or-set_other l i k v 0 q)) (words k)

-- ---- one more

-- The words before word i were full and are 0, and the one is owed to word i.
pub record Carrying (start ws : List ℕ) (i : ℕ) : Type 0 where
  pub long : length ws ≡ length start
  pub words : (k : ℕ) → get_or ws k 0 < 2 ^ 64
  pub owed : number_of ws + 2 ^ (64 * i) ≡ number_of start + 1

pub carry_starts : (start : List ℕ) → ((k : ℕ) → get_or start k 0 < 2 ^ 64) → Carrying start start 0
carry_starts start words = record { long = refl; words = words; owed = refl }

module _ (start ws : List ℕ) (i next : ℕ) (p : Carrying start ws i) (inside : i < length ws) (sum : next ≡ (get_or ws i 0 + 1) % 2 ^ 64) where
  abbrev w : ℕ
  w = get_or ws i 0

  -- A word below its largest takes the one: the number is one more.
  pub carry_ends : next ≢ 0 → set ws i next ≡ words_of (length start) (number_of start + 1)
  carry_ends ne =
      let fits = p.words i in
      let up : next ≡ w + 1 = omega arith in
      let put = number_of-set ws i next inside in
      let parts : next * 2 ^ (64 * i) ≡ w * 2 ^ (64 * i) + 2 ^ (64 * i) =
      ap (λ k. k * 2 ^ (64 * i)) up ∙ add-mul w 1 (2 ^ (64 * i)) ∙ ap (λ k. w * 2 ^ (64 * i) + k) (one-mul (2 ^ (64 * i))) in
      let more : number_of (set ws i next) ≡ number_of start + 1 = omega (arith, put, parts, p.owed) in
      sym (words_of-number_of (length start) (set ws i next) (length-set ws i next ∙ p.long) (words_set ws i next inside (omega arith) p.words))
      ∙ ap (words_of (length start)) more

  -- The largest word becomes 0, and the one is owed to the next word.
  pub carry_on : next ≡ 0 → Carrying start (set ws i next) (i + 1)
  carry_on none =
      let fits = p.words i in
      let top : w + 1 ≡ 2 ^ 64 = omega arith in
      let put = number_of-set ws i next inside in
      let gone : next * 2 ^ (64 * i) ≡ 0 = ap (λ k. k * 2 ^ (64 * i)) none ∙ zero-mul (2 ^ (64 * i)) in
      let rest : 2 ^ (64 * (i + 1)) ≡ w * 2 ^ (64 * i) + 2 ^ (64 * i) =
      ap (λ k. 2 ^ (64 * k)) (add-one i) ∙ pow_words i ∙ ap (λ k. k * 2 ^ (64 * i)) (sym top)
      ∙ add-mul w 1 (2 ^ (64 * i)) ∙ ap (λ k. w * 2 ^ (64 * i) + k) (one-mul (2 ^ (64 * i))) in
      record {
        long = length-set ws i next ∙ p.long;
        words = words_set ws i next inside (omega arith) p.words;
        owed = omega (arith, put, gone, rest, p.owed);
      }

-- ---- a word of each value

pub length-stored : (d k w : ℕ) (held values : List ℕ) → length (stored d k w held values) ≡ length values
unfolding stored
length-stored zero k w held values = refl
length-stored (suc j) k w held values = length-set (stored j k w held values) (j * k + w) (get_or held j 0) ∙ length-stored j k w held values

pub stored_next : (j k w : ℕ) (held values : List ℕ) → set (stored j k w held values) (j * k + w) (get_or held j 0) ≡ stored (j + 1) k w held values
unfolding stored
stored_next j k w held values = ap (λ n. stored n k w held values) (sym (add-one j))

-- A word of a value lies in the buffer.
pub word_inside : (j k w d : ℕ) → j < d → w < k → j * k + w < d * k
word_inside j k w d h l = digits_lt h l
