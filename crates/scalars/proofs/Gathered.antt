-- Laws of the bits gathered from all scalars.
-- Assumes nothing.
use Prim.Native.Nat.{ℕ, zero, suc, ◌+◌, ◌-◌, ◌*◌, ◌/◌, ◌%◌, ◌^◌, ◌≤◌, ◌<◌}
use mathlib.Core.Path.{◌≡◌, refl, sym, ap, ap₂, ◌∙◌}
use mathlib.Core.List.{List, [], ◌∷◌}
use native.Mathlib.Nat.{zero-div, div-eq_of_lt, pow-succ', two-pow-succ, div-div-eq-div-mul, div-one}
use native.Mathlib.Omega.{arith}
use lib.ListN.{length, get_or, drop, length-drop, drop_of_length-le}
use lib.Pow.{pow_mono}
use lib.Seq.{drop-cons}
use Rattle.ladder.specs.Numbers.{number_of, numbers_of}
use Rattle.ladder.proofs.Numbers.{length-numbers_of, own, number_at}
use Rattle.scalars.specs.Inner.{gathered}

-- One number more in front.
gathered-drop : (ks : List ℕ) (i j : ℕ) → j < length ks
    → gathered (drop j ks) i ≡ gathered (drop (suc j) ks) i * 2 + get_or ks j 0 / 2 ^ i % 2
unfolding gathered
gathered-drop ks i j h = ap (λ ns. gathered ns i) (drop-cons ks j 0 h)

-- As many bits as there are numbers.
gathered_below : (ks : List ℕ) (i : ℕ) → gathered ks i < 2 ^ length ks
unfolding gathered
gathered_below [] i = omega arith
gathered_below (n ∷ ns) i = omega (arith, gathered_below ns i, two-pow-succ (length ns))

-- Past the length of the numbers every bit is 0.
pub gathered_past : (ks : List ℕ) (i : ℕ) → ((j : ℕ) → j < length ks → get_or ks j 0 < 2 ^ i) → gathered ks i ≡ 0
unfolding gathered
gathered_past [] i h = refl
gathered_past (n ∷ ns) i h =
    omega (arith, gathered_past ns i (λ j l. h (suc j) (omega arith)), div-eq_of_lt (h zero (omega arith)))

-- Bit j is that of number j.
pub gathered_bit : (ks : List ℕ) (i j : ℕ) → gathered ks i / 2 ^ j % 2 ≡ get_or ks j 0 / 2 ^ i % 2
unfolding gathered
gathered_bit [] i j = ap (λ m. m % 2) (zero-div (2 ^ j) ∙ sym (zero-div (2 ^ i)))
gathered_bit (n ∷ ns) i zero = omega (arith, div-one (gathered ns i * 2 + n / 2 ^ i % 2))
gathered_bit (n ∷ ns) i (suc j) =
    ap (λ m. m % 2)
    (ap (λ m. (gathered ns i * 2 + n / 2 ^ i % 2) / m) (pow-succ' 2 j)
    ∙ sym (div-div-eq-div-mul (gathered ns i * 2 + n / 2 ^ i % 2) 2 (2 ^ j))
    ∙ ap (λ m. m / 2 ^ j) (omega arith))
    ∙ gathered_bit ns i j

-- ---- the numbers in words, from the last to the first

module _ (d k : ℕ) (ws : List ℕ) where
  none_left : drop d (numbers_of d k ws) ≡ []
  none_left = drop_of_length-le (numbers_of d k ws) {i = d} (omega (arith, length-numbers_of d k ws))

  pub gathered_none : (i : ℕ) → 0 ≡ gathered (drop d (numbers_of d k ws)) i
  unfolding gathered
  gathered_none i = sym (ap (λ ns. gathered ns i) none_left)

  -- Eight bits are below 256.
  pub gathered_small : (i j : ℕ) → d ≤ 8 → gathered (drop j (numbers_of d k ws)) i < 256
  gathered_small i j h =
      let ks = numbers_of d k ws in
      omega (
        arith,
        gathered_below (drop j ks) i,
        pow_mono {i = length (drop j ks)} {j = 8} (omega (arith, length-drop j ks, length-numbers_of d k ws)),
      )

module _ (d k : ℕ) (ws : List ℕ) (j : ℕ) (some : 0 < j) (within : j ≤ d) where
  abbrev numbers : List ℕ
  numbers = numbers_of d k ws

  inside : j - 1 < length numbers
  inside = omega (arith, length-numbers_of d k ws)

  next : suc (j - 1) ≡ j
  next = omega arith

  pub gathered_more : (i bits b : ℕ) → bits ≡ gathered (drop j numbers) i → b ≡ number_of (own k ws (j - 1)) / 2 ^ i % 2
      → bits * 2 + b ≡ gathered (drop (j - 1) numbers) i
  gathered_more i bits b e f =
      ap₂ (λ a c. a * 2 + c)
      (e ∙ ap (λ m. gathered (drop m numbers) i) (sym next))
      (f ∙ ap (λ n. n / 2 ^ i % 2) (sym (number_at d k ws (j - 1) (omega arith))))
      ∙ sym (gathered-drop numbers i (j - 1) inside)
