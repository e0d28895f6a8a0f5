-- Laws of a number's digits in a base of 2 or more: the bound on divisions is enough, the digits are right and the fewest, and where each stands.
-- Assumes nothing.
use Prim.Native.Nat.{ℕ, zero, suc, ◌+◌, ◌-◌, ◌*◌, ◌/◌, ◌%◌, ◌^◌, ◌≤◌, ◌<◌}
use mathlib.Core.Path.{◌≡◌, refl, sym, ap, ap₂, ◌∙◌}
use mathlib.Core.Logic.{◌⊎◌, inl, inr}
use mathlib.Core.Bool.{cond}
use mathlib.Core.List.{List, [], ◌∷◌, ◌++◌, foldl, foldl-append}
use native.Mathlib.Nat.{le_refl, zero-mul, mod-lt, div-one, div-lt_self, div-add-mod', mod-eq_of_lt, div-lt_iff_lt-mul, le-div_iff_mul-le, div-div-eq-div-mul, pow-zero, pow-suc, pow-succ', one-le-pow, one-mul, sub_self, mul-le-mul_right}
use native.Mathlib.Decide.{dec_lt}
use native.Mathlib.Omega.{arith}
use borrow.Author.Tests.{lt-ltb, le-ltb}
use lib.ListN.{length, get_or, length-append, get_or-append}
use Rattle.ladder.specs.Lists.{tabulate}
use Rattle.ladder.specs.Listing.{digits_within, digits_of}
use Rattle.ladder.proofs.Lists.{length-tabulate, get_or-tabulate, tabulate-same, tabulate-suc, append_below}

-- The number that digits stand for in a base, the highest first.
unfoldable pub value_of : ℕ → List ℕ → ℕ
value_of base ds = foldl (λ n x. n * base + x) 0 ds

-- ---- one digit at a time

within_small : (k base n : ℕ) → n < base → digits_within k base n ≡ n ∷ []
unfolding digits_within
within_small zero base n h = refl
within_small (suc k) base n h =
    ap (λ b. cond b (n ∷ []) (digits_within k base (n / base) ++ (n % base ∷ []))) (lt-ltb n base h)

within_more : (k base n : ℕ) → base ≤ n → digits_within (suc k) base n ≡ digits_within k base (n / base) ++ (n % base ∷ [])
unfolding digits_within
within_more k base n h =
    ap (λ b. cond b (n ∷ []) (digits_within k base (n / base) ++ (n % base ∷ []))) (le-ltb n base h)

-- A number below the base is its one digit.
pub digits_small : (base n : ℕ) → n < base → digits_of base n ≡ n ∷ []
unfolding digits_of
digits_small base n h = within_small n base n h

below_one : (b x : ℕ) → x < b → (i : ℕ) → get_or (x ∷ []) i 0 < b
below_one b x h zero = h
below_one b x h (suc i) = omega arith

module _ (base : ℕ) (two : 2 ≤ base) where
  fewer : (n : ℕ) → base ≤ n → n / base < n
  fewer n h = div-lt_self {n = n} {k = base} (omega arith) (omega arith)

  -- Two bounds that are not below the number give the same digits.
  within_same : (k m n : ℕ) → n ≤ k → n ≤ m → digits_within k base n ≡ digits_within m base n
  within_same zero m n h g = within_small zero base n (omega arith) ∙ sym (within_small m base n (omega arith))
  within_same (suc k) zero n h g = within_small (suc k) base n (omega arith) ∙ sym (within_small zero base n (omega arith))
  within_same (suc k) (suc m) n h g = go (dec_lt n base) (λ l r. within_same k m (n / base) l r)
    where
      go : Dec (n < base) → (n / base ≤ k → n / base ≤ m → digits_within k base (n / base) ≡ digits_within m base (n / base))
          → digits_within (suc k) base n ≡ digits_within (suc m) base n
      go (yes l) rest = within_small (suc k) base n l ∙ sym (within_small (suc m) base n l)
      go (no l) rest =
          let large : base ≤ n = omega arith in
          within_more k base n large
          ∙ ap (λ ds. ds ++ (n % base ∷ [])) (rest (omega (arith, fewer n large)) (omega (arith, fewer n large)))
          ∙ sym (within_more m base n large)

  -- A larger one is the digits of what it has past its last digit, and the last digit.
  pub digits_more : (n : ℕ) → base ≤ n → digits_of base n ≡ digits_of base (n / base) ++ (n % base ∷ [])
  unfolding digits_of
  digits_more zero h = absurd (omega arith)
  digits_more (suc n) h =
      within_more n base (suc n) h
      ∙ ap (λ ds. ds ++ (suc n % base ∷ []))
      (within_same n (suc n / base) (suc n / base) (omega (arith, fewer (suc n) h)) (le_refl (suc n / base)))

  -- What holds of numbers of one digit, and of a number where it holds of all but its last digit, holds of all.
  by_digits : (P : ℕ → Type 0) → ((n : ℕ) → n < base → P n) → ((n : ℕ) → base ≤ n → P (n / base) → P n) → (n : ℕ) → P n
  by_digits P small more n = all n n (le_refl n)
    where
      all : (k n : ℕ) → n ≤ k → P n
      all zero n h = small n (omega arith)
      all (suc k) n h = go (dec_lt n base) (λ l. all k (n / base) l)
        where
          go : Dec (n < base) → (n / base ≤ k → P (n / base)) → P n
          go (yes l) rest = small n l
          go (no l) rest = more n (omega arith) (rest (omega (arith, fewer n (omega arith))))

  -- ---- the digits are right

  -- The digits of a number stand for it.
  pub digits_value : (n : ℕ) → value_of base (digits_of base n) ≡ n
  unfolding value_of
  digits_value =
      by_digits (λ n. value_of base (digits_of base n) ≡ n) (λ n h. rw (digits_small base n h) (omega (arith, zero-mul base)))
      (λ n h e.
      ap (value_of base) (digits_more n h) ∙ foldl-append (λ m x. m * base + x) 0 (digits_of base (n / base)) (n % base ∷ [])
      ∙ ap (λ m. m * base + n % base) e ∙ div-add-mod' n base)

  -- Each is below the base ..
  pub digits_below : (n i : ℕ) → get_or (digits_of base n) i 0 < base
  digits_below =
      by_digits (λ n. (i : ℕ) → get_or (digits_of base n) i 0 < base) (λ n h. rw (digits_small base n h) (below_one base n h))
      (λ n h e.
      rw (digits_more n h)
      (append_below base (digits_of base (n / base)) (n % base ∷ []) e (below_one base (n % base) (mod-lt n {m = base} (omega arith)))))

  -- .. there is one at least ..
  pub digits_some : (n : ℕ) → 1 ≤ length (digits_of base n)
  digits_some =
      by_digits (λ n. 1 ≤ length (digits_of base n)) (λ n h. rw (digits_small base n h) (omega arith))
      (λ n h e. omega (arith, ap length (digits_more n h), length-append (digits_of base (n / base)) (n % base ∷ [])))

  -- .. and the first is not 0, unless the number is.
  pub digits_first : (n : ℕ) → 1 ≤ n → 1 ≤ get_or (digits_of base n) 0 0
  digits_first =
      by_digits (λ n. 1 ≤ n → 1 ≤ get_or (digits_of base n) 0 0) (λ n h s. rw (digits_small base n h) s)
      (λ n h e s.
      rw (digits_more n h, get_or-append (digits_of base (n / base)) (n % base ∷ []) 0 0 (digits_some (n / base)))
      (e ((le-div_iff_mul-le {k = base} {x = 1} {y = n} (omega arith)).1 (omega arith))))

  -- ---- where each stands, and how many there are

  power_pos : (k : ℕ) → 1 ≤ base ^ k
  power_pos k = one-le-pow k base (omega arith)

  power_one : base ^ 1 ≡ base
  power_one = pow-suc base 0 ∙ ap (λ m. m * base) (pow-zero base) ∙ one-mul base

  last_digit : (n : ℕ) → n / base ^ 0 % base ≡ n % base
  last_digit n = ap (λ m. m % base) (ap (λ m. n / m) (pow-zero base) ∙ div-one n)

  shorter : (k n : ℕ) → n < base ^ suc k → n / base < base ^ k
  shorter k n h = (div-lt_iff_lt-mul {k = base} (omega arith)).1 (rw (pow-suc base k) at h)

  longer : (k n : ℕ) → base ^ suc k ≤ n → base ^ k ≤ n / base
  longer k n h = (le-div_iff_mul-le {k = base} (omega arith)).1 (rw (pow-suc base k) at h)

  -- A number of suc k digits, so from base ^ k on if k is not 0: each digit from the number's highest place on.
  pub digits_at : (k n : ℕ) → n < base ^ suc k → (k ≡ 0) ⊎ (base ^ k ≤ n)
      → digits_of base n ≡ tabulate (suc k) (λ i. n / base ^ (k - i) % base)
  digits_at zero n h w =
      let small : n < base = omega (arith, power_one) in
      digits_small base n small ∙ unfold tabulate in ap (λ x. x ∷ []) (sym (last_digit n ∙ mod-eq_of_lt small))
  digits_at (suc k) n h (inl e) = absurd (omega arith)
  digits_at (suc k) n h (inr low) =
      digits_more n large
      ∙ ap₂ (λ ds x. ds ++ (x ∷ []))
      (digits_at k (n / base) (shorter (suc k) n h) (inr (longer k n low)) ∙ tabulate-same (suc k) _ _ higher)
      (sym (ap (λ e. n / base ^ e % base) (sub_self (suc k)) ∙ last_digit n))
      ∙ sym (tabulate-suc (suc k) (λ i. n / base ^ (suc k - i) % base))
    where
      large : base ≤ n
      large = omega (arith, low, pow-suc base k, mul-le-mul_right base (power_pos k), one-mul base)

      higher : (i : ℕ) → i < suc k → n / base / base ^ (k - i) % base ≡ n / base ^ (suc k - i) % base
      higher i l =
          let place : suc k - i ≡ suc (k - i) = omega arith in
          ap (λ m. m % base)
          (div-div-eq-div-mul n base (base ^ (k - i)) ∙ ap (λ m. n / m) (sym (pow-succ' base (k - i)) ∙ ap (λ e. base ^ e) (sym place)))

  -- So there are suc k of them.
  pub digits_count : (k n : ℕ) → n < base ^ suc k → (k ≡ 0) ⊎ (base ^ k ≤ n) → length (digits_of base n) ≡ suc k
  digits_count k n h w = ap length (digits_at k n h w) ∙ length-tabulate (suc k) _

  one_more : (n : ℕ) → base ≤ n → length (digits_of base n) ≡ suc (length (digits_of base (n / base)))
  one_more n h = omega (arith, ap length (digits_more n h), length-append (digits_of base (n / base)) (n % base ∷ []))

  -- A number is below the power of the base for all its digits ..
  pub digits_power : (n : ℕ) → n < base ^ length (digits_of base n)
  digits_power =
      by_digits (λ n. n < base ^ length (digits_of base n))
      (λ n h. rw (digits_small base n h) (rw power_one h))
      (λ n h e.
      rw (one_more n h, pow-suc base (length (digits_of base (n / base))))
      ((div-lt_iff_lt-mul {k = base} {x = n} {y = base ^ length (digits_of base (n / base))} (omega arith)).0 e))

  -- .. and below a power it has no more digits than that has places.
  pub digits_length : (k n : ℕ) → n < base ^ suc k → length (digits_of base n) ≤ suc k
  digits_length zero n h = omega (arith, ap length (digits_small base n (omega (arith, power_one))))
  digits_length (suc k) n h = go (dec_lt n base) (digits_length k (n / base) (shorter (suc k) n h))
    where
      go : Dec (n < base) → length (digits_of base (n / base)) ≤ suc k → length (digits_of base n) ≤ suc (suc k)
      go (yes l) rest = omega (arith, ap length (digits_small base n l))
      go (no l) rest = omega (arith, one_more n (omega arith))

  fewest : (k n : ℕ) → length (digits_of base n) ≡ suc k → (k ≡ 0) ⊎ (base ^ k ≤ n)
  fewest zero n e = inl refl
  fewest (suc k) n e = inr (go (dec_lt n (base ^ suc k)))
    where
      go : Dec (n < base ^ suc k) → base ^ suc k ≤ n
      go (yes l) = absurd (omega (arith, digits_length k n l))
      go (no l) = omega arith

  -- Digit i, from the highest, of all that there are.
  pub digits_nth : (n i : ℕ) → i < length (digits_of base n)
      → get_or (digits_of base n) i 0 ≡ n / base ^ (length (digits_of base n) - 1 - i) % base
  digits_nth n i h =
      let k = length (digits_of base n) - 1 in
      let last : suc k ≡ length (digits_of base n) = omega (arith, digits_some n) in
      ap (λ ds. get_or ds i 0) (digits_at k n (rw last (digits_power n)) (fewest k n (sym last)))
      ∙ get_or-tabulate (suc k) (λ j. n / base ^ (k - j) % base) i 0 (omega arith)
