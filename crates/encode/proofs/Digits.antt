-- Laws of bits as one number, the first highest.
-- Assumes nothing.
use Prim.Native.Nat.{ℕ, suc, ◌+◌, ◌-◌, ◌*◌, ◌/◌, ◌%◌, ◌^◌, ◌<◌}
use mathlib.Core.Path.{◌≡◌, sym, ap, ap₂, ◌∙◌}
use mathlib.Core.List.{[], ◌∷◌, ◌++◌}
use native.Mathlib.Omega.{arith}
use lib.Bits.{bit_xor, xor_shr, xor_add_and}
use lib.Pow.{shr-shr, high, low}
use Rattle.ladder.specs.Lists.{tabulate}
use Rattle.ladder.specs.Walk.{bits_of}
use Rattle.ladder.proofs.Lists.{tabulate-same, tabulate_add}
use Rattle.ladder.proofs.Fields.{low_bit}

-- The bits of x, then the b bits of y.
pub bits_of-append : (a b x y : ℕ) → y < 2 ^ b → bits_of (a + b) (x * 2 ^ b + y) ≡ bits_of a x ++ bits_of b y
unfolding bits_of
bits_of-append a b x y h =
    tabulate_add a b _
    ∙ ap₂ (λ s t. s ++ t) (tabulate-same a _ _ (λ k l. first k l)) (tabulate-same b _ _ (λ k l. then k l))
  where
    first : (k : ℕ) → k < a → (x * 2 ^ b + y) / 2 ^ (a + b - suc k) % 2 ≡ x / 2 ^ (a - suc k) % 2
    first k l =
        let e : a + b - suc k ≡ b + (a - suc k) = omega arith in
        ap (λ m. m % 2)
        (ap (λ m. (x * 2 ^ b + y) / 2 ^ m) e
        ∙ sym (shr-shr (x * 2 ^ b + y) b (a - suc k))
        ∙ ap (λ m. m / 2 ^ (a - suc k)) (high x b h))

    then : (k : ℕ) → k < b → (x * 2 ^ b + y) / 2 ^ (a + b - suc (a + k)) % 2 ≡ y / 2 ^ (b - suc k) % 2
    then k l =
        let e : a + b - suc (a + k) ≡ b - suc k = omega arith in
        ap (λ m. (x * 2 ^ b + y) / 2 ^ m % 2) e
        ∙ low_bit (x * 2 ^ b + y) b (b - suc k) (omega arith)
        ∙ ap (λ m. m / 2 ^ (b - suc k) % 2) (low x b h)

-- One bit more at the end.
pub bits_of_snoc : (d n b : ℕ) → b < 2 → bits_of (suc d) (n * 2 + b) ≡ bits_of d n ++ (b ∷ [])
bits_of_snoc d n b h =
    let e : suc d ≡ d + 1 = omega arith in
    ap (λ k. bits_of k (n * 2 + b)) e ∙ bits_of-append d 1 n b h
    ∙ ap (λ t. bits_of d n ++ t) (unfold bits_of tabulate in ap (λ c. c ∷ []) (omega arith))

-- A bit of an XOR.
pub xor_bit : (a b k : ℕ) → bit_xor a b / 2 ^ k % 2 ≡ (a / 2 ^ k % 2 + b / 2 ^ k % 2) % 2
xor_bit a b k = ap (λ m. m % 2) (xor_shr a b k) ∙ omega (arith, xor_add_and (a / 2 ^ k) (b / 2 ^ k))
