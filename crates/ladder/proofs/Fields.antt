-- Some bits of a number, and where they stand in its words.
-- Assumes nothing.
use Prim.Native.Nat.{ℕ, zero, suc, ◌+◌, ◌-◌, ◌*◌, ◌/◌, ◌%◌, ◌^◌, ◌≤◌, ◌<◌}
use mathlib.Core.Path.{◌≡◌, sym, ap, ◌∙◌}
use mathlib.Core.List.{List, [], ◌∷◌}
use native.Mathlib.Nat.{zero-div, suc_inj, suc-ne-zero}
use native.Mathlib.Omega.{arith}
use lib.ListN.{length, get_or}
use lib.Pow.{field, mod-mod-pow, shr-shr}
use Rattle.ladder.specs.Numbers.{number_of}

-- j bits below place b are among the number's lowest b bits ..
low_field : (n b e j : ℕ) → j + e ≤ b → n / 2 ^ e % 2 ^ j ≡ n % 2 ^ b / 2 ^ e % 2 ^ j
low_field n b e j h =
    let all : b - (j + e) + (j + e) ≡ b = omega arith in
    sym (field n j e)
    ∙ ap (λ m. m / 2 ^ e) (sym (mod-mod-pow n (b - (j + e)) (j + e)) ∙ ap (λ k. n % 2 ^ k % 2 ^ (j + e)) all)
    ∙ field (n % 2 ^ b) j e

-- .. and so is one.
pub low_bit : (n b e : ℕ) → e < b → n / 2 ^ e % 2 ≡ n % 2 ^ b / 2 ^ e % 2
low_bit n b e h = low_field n b e 1 (omega arith)

-- The words after the lowest are what is left past 64 bits.
past_word : (w : ℕ) (ws : List ℕ) (q r : ℕ) → w < 2 ^ 64
    → number_of (w ∷ ws) / 2 ^ (64 * suc q + r) ≡ number_of ws / 2 ^ (64 * q + r)
unfolding number_of
past_word w ws q r h =
    let further : 64 * suc q + r ≡ 64 + (64 * q + r) = omega arith in
    ap (λ e. (w + 2 ^ 64 * number_of ws) / 2 ^ e) further
    ∙ sym (shr-shr (w + 2 ^ 64 * number_of ws) 64 (64 * q + r))
    ∙ ap (λ m. m / 2 ^ (64 * q + r)) (omega arith)

-- j bits from bit r of word q on, all of them in that word.
pub number_field : (ws : List ℕ) → ((i : ℕ) → get_or ws i 0 < 2 ^ 64) → (q r j : ℕ) → j + r ≤ 64
    → number_of ws / 2 ^ (64 * q + r) % 2 ^ j ≡ get_or ws q 0 / 2 ^ r % 2 ^ j
unfolding number_of
number_field [] h q r j l = ap (λ m. m % 2 ^ j) (zero-div (2 ^ (64 * q + r)) ∙ sym (zero-div (2 ^ r)))
number_field (w ∷ ws) h zero r j l =
    let first : 64 * 0 + r ≡ r = omega arith in
    ap (λ e. (w + 2 ^ 64 * number_of ws) / 2 ^ e % 2 ^ j) first
    ∙ low_field (w + 2 ^ 64 * number_of ws) 64 r j l
    ∙ ap (λ m. m / 2 ^ r % 2 ^ j) (omega (arith, h zero))
number_field (w ∷ ws) h (suc q) r j l =
    ap (λ m. m % 2 ^ j) (past_word w ws q r (h zero)) ∙ number_field ws (λ i. h (suc i)) q r j l

-- What is left past all words but the top one is in the top word.
pub number_top : (ws : List ℕ) → ((i : ℕ) → get_or ws i 0 < 2 ^ 64) → (q r : ℕ) → length ws ≡ suc q
    → number_of ws / 2 ^ (64 * q + r) ≡ get_or ws q 0 / 2 ^ r
unfolding number_of
number_top [] h q r e = absurd (suc-ne-zero q (sym e))
number_top (w ∷ []) h zero r e =
    let first : 64 * 0 + r ≡ r = omega arith in
    ap (λ k. (w + 2 ^ 64 * 0) / 2 ^ k) first ∙ ap (λ m. m / 2 ^ r) (omega arith)
number_top (w ∷ v ∷ ws) h zero r e = absurd (omega arith)
number_top (w ∷ ws) h (suc q) r e = past_word w ws q r (h zero) ∙ number_top ws (λ i. h (suc i)) q r (suc_inj e)
