-- Sums and negatives by a modulus: a subtraction reduces a sum, and a wrapped difference is a negative.
-- Assumes nothing.
use Rattle.std.proofs.Common.{◌≡◌, ℕ, zero, suc, ◌+◌, ◌-◌, ◌*◌, ◌/◌, ◌%◌, ◌^◌, ◌<◌, ◌≤◌, ◌≢◌, sym, refl, ap, ◌∙◌, mod-lt, mod-eq_of_lt, one-mul, mul-zero, zero-mul, arith}
use native.Mathlib.Nat.{add-mul-mod_self_right, mod_self}
use native.Mathlib.Decide.{dec_lt}
use Rattle.ladder.specs.Registers.{modulus}

-- ---- the modulus

pub modulus_zero : (m : ℕ) → m ≡ 0 → modulus m ≡ 2 ^ 64
unfolding modulus
modulus_zero zero e = refl
modulus_zero (suc m) e = absurd (omega arith)

pub modulus_some : (m : ℕ) → m ≢ 0 → modulus m ≡ m
unfolding modulus
modulus_some zero n = absurd (n refl)
modulus_some (suc m) n = refl

pub modulus_positive : (m : ℕ) → 0 < modulus m
unfolding modulus
modulus_positive zero = omega arith
modulus_positive (suc m) = omega arith

-- What is reduced is an element.
pub below_modulus : (m n : ℕ) → n % modulus m < modulus m
below_modulus m n = mod-lt n (modulus_positive m)

pub element_kept : (m n : ℕ) → n < modulus m → n % modulus m ≡ n
element_kept m n h = mod-eq_of_lt h

-- ---- sums

-- t is the wrapped a + b - m: its highest bit is 1 exactly where a + b is less than m, and then m comes back.
sum_reduced_by : (m a b t r : ℕ) → m ≤ 2 ^ 63 → a < modulus m → b < modulus m → t < 2 ^ 64
    → (t + m) % 2 ^ 64 ≡ (a + b) % 2 ^ 64 → r ≡ (t + t / 2 ^ 63 * m) % 2 ^ 64 → r ≡ (a + b) % modulus m
sum_reduced_by zero a b t r h k l f w o =
    let M = modulus_zero zero refl in
    rw M (omega (arith, mul-zero (t / 2 ^ 63)))
sum_reduced_by (suc m) a b t r h k l f w o = go (dec_lt (a + b) (suc m))
  where
    M : modulus (suc m) ≡ suc m
    M = modulus_some (suc m) (λ z. omega arith)

    go : Dec (a + b < suc m) → r ≡ (a + b) % modulus (suc m)
    go (yes less) =
        let top : t / 2 ^ 63 ≡ 1 = omega (arith, M) in
        let back : t / 2 ^ 63 * suc m ≡ suc m = ap (λ q. q * suc m) top ∙ one-mul (suc m) in
        let is : r ≡ a + b = omega (arith, M) in
        is ∙ sym (element_kept (suc m) (a + b) (omega (arith, M)))
    go (no more) =
        let top : t / 2 ^ 63 ≡ 0 = omega (arith, M) in
        let none : t / 2 ^ 63 * suc m ≡ 0 = ap (λ q. q * suc m) top ∙ zero-mul (suc m) in
        let is : r ≡ a + b - suc m = omega (arith, M) in
        let rest : a + b - suc m < modulus (suc m) = omega (arith, M) in
        let whole : a + b - suc m + 1 * modulus (suc m) ≡ a + b = omega (arith, M) in
        is ∙ sym (element_kept (suc m) (a + b - suc m) rest) ∙ sym (add-mul-mod_self_right (a + b - suc m) 1 (modulus (suc m)))
        ∙ ap (λ n. n % modulus (suc m)) whole

pub sum_reduced : (m a b t r : ℕ) → m ≤ 2 ^ 63 → a < modulus m → b < modulus m → t ≡ ((a + b) % 2 ^ 64 + (2 ^ 64 - m)) % 2 ^ 64
    → r ≡ (t + t / 2 ^ 63 * m) % 2 ^ 64 → r ≡ (a + b) % modulus m
sum_reduced m a b t r h k l w o = sum_reduced_by m a b t r h k l (omega arith) (omega arith) o

-- ---- negatives

pub negative_zero : (m e : ℕ) → e ≡ 0 → 0 ≡ (modulus m - e) % modulus m
negative_zero m e z =
    let all : modulus m - e ≡ modulus m = omega arith in
    sym (ap (λ n. n % modulus m) all ∙ mod_self (modulus m))

-- The wrapped difference from m, which is 0 for 2^64.
pub negative_some : (m e : ℕ) → m < 2 ^ 64 → e ≢ 0 → e < modulus m → (m + (2 ^ 64 - e)) % 2 ^ 64 ≡ (modulus m - e) % modulus m
negative_some zero e h n l =
    let M = modulus_zero zero refl in
    let is : (zero + (2 ^ 64 - e)) % 2 ^ 64 ≡ modulus zero - e = omega arith in
    is ∙ sym (element_kept zero (modulus zero - e) (omega arith))
negative_some (suc m) e h n l =
    let M = modulus_some (suc m) (λ z. omega arith) in
    let is : (suc m + (2 ^ 64 - e)) % 2 ^ 64 ≡ modulus (suc m) - e = omega arith in
    is ∙ sym (element_kept (suc m) (modulus (suc m) - e) (omega arith))
