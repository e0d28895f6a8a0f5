-- The bits of a step that come as one number: what a loop over them needs.
-- Assumes nothing.
use Prim.Native.Nat.{ℕ, zero, suc, ◌+◌, ◌-◌, ◌*◌, ◌/◌, ◌%◌, ◌^◌, ◌≤◌, ◌<◌}
use mathlib.Core.Path.{◌≡◌, sym, ap, ap₂, ◌∙◌}
use mathlib.Core.List.{[], ◌∷◌}
use native.Mathlib.Nat.{one-mul, mod-lt}
use native.Mathlib.Numerals.{add-one}
use native.Mathlib.Omega.{arith}
use lib.Count.{ones as onesOf, ones_in, ones_cat}
use lib.Pow.{pow_pos, shl_exact, mod-pow-add}
use lib.ListN.{get_or, drop, length-drop, drop_of_length-le}
use lib.Seq.{drop-cons}
use Rattle.ladder.specs.Lists.{tabulate, ones}
use Rattle.ladder.specs.Walk.{bits_of}
use Rattle.ladder.proofs.Lists.{ones_le, tabulate-same}
use Rattle.ladder.proofs.Numbers.{tabulate_below}
use Rattle.ladder.proofs.Walk.{length-bits_of}

module _ (d n : ℕ) where
  -- Each is 0 or 1.
  pub bit_below : (k : ℕ) → get_or (bits_of d n) k 0 < 2
  unfolding bits_of
  bit_below = tabulate_below 2 d _ (omega arith) (λ k h. omega arith)

  -- The bits from bit k on are bit k and the bits after it.
  pub bits_left : (k : ℕ) → k < d → drop k (bits_of d n) ≡ get_or (bits_of d n) k 0 ∷ drop (suc k) (bits_of d n)
  bits_left k h = drop-cons (bits_of d n) k 0 (omega (arith, length-bits_of d n))

  pub no_bits_left : (k : ℕ) → d ≤ k → drop k (bits_of d n) ≡ []
  no_bits_left k h = drop_of_length-le (bits_of d n) {i = k} (omega (arith, length-bits_of d n))

  -- The ones from bit k on: bit k and the ones after it ..
  pub ones_left : (k : ℕ) → k < d → ones (drop k (bits_of d n)) ≡ get_or (bits_of d n) k 0 + ones (drop (k + 1) (bits_of d n))
  unfolding ones
  ones_left k h = rw (add-one k) (ap ones (bits_left k h) ∙ go (get_or (bits_of d n) k 0) (bit_below k))
    where
      go : (b : ℕ) → b < 2 → ones (b ∷ drop (suc k) (bits_of d n)) ≡ b + ones (drop (suc k) (bits_of d n))
      go zero h = omega arith
      go (suc zero) h = omega arith
      go (suc (suc b)) h = absurd (omega arith)

  -- .. and never more than there are bits.
  pub ones_room : (k : ℕ) → k ≤ d → ones (drop k (bits_of d n)) + k ≤ d
  ones_room k h = omega (arith, ones_le (drop k (bits_of d n)), length-drop k (bits_of d n), length-bits_of d n)

  pub ones_inside : ones (bits_of d n) ≤ d
  ones_inside = omega (arith, ones_room 0 (omega arith))

-- 1 moved up by d places is a power of 2, of which a word cuts nothing off.
pub power : (d : ℕ) → d ≤ 8 → 1 * 2 ^ d % 2 ^ 64 ≡ 2 ^ d
power d h = shl_exact 1 d 64 (omega arith) (omega arith) ∙ one-mul _

-- With one bit more, that bit comes first.
bits_more : (d n : ℕ) → bits_of (suc d) n ≡ n / 2 ^ d % 2 ∷ bits_of d n
unfolding bits_of tabulate
bits_more d n =
    let bit : (i j : ℕ) → i ≡ j → n / 2 ^ i % 2 ≡ n / 2 ^ j % 2 = λ i j e. ap (λ m. n / 2 ^ m % 2) e in
    ap₂ (λ b r. b ∷ r) (bit _ d (omega arith)) (tabulate-same d _ _ (λ k h. bit _ (d - suc k) (omega arith)))

-- The ones of the d bits are those of the number's last d binary digits.
pub ones_of_bits : (d n : ℕ) → onesOf (n % 2 ^ d) ≡ ones (bits_of d n)
unfolding bits_of tabulate ones onesOf ones_in
ones_of_bits zero n = ap onesOf {x = n % 1} {y = 0} (omega arith)
ones_of_bits (suc d) n =
    ap (λ e. onesOf (n % 2 ^ e)) {x = suc d} {y = 1 + d} (omega arith)
    ∙ ap onesOf (mod-pow-add n 1 d)
    ∙ ones_cat d (n / 2 ^ d % 2) (n % 2 ^ d) (mod-lt n (pow_pos d))
    ∙ go (n / 2 ^ d % 2) (omega arith) (ones_of_bits d n)
    ∙ sym (ap ones (bits_more d n))
  where
    go : (b : ℕ) → b < 2 → onesOf (n % 2 ^ d) ≡ ones (bits_of d n) → onesOf b + onesOf (n % 2 ^ d) ≡ ones (b ∷ bits_of d n)
    go zero h e = omega arith
    go (suc zero) h e = omega arith
    go (suc (suc b)) h e = absurd (omega arith)
