-- The difference run's addition, for any register and any vector of whole numbers: by the modulus it is twice the register and the
-- true combination of the elements.
-- Assumes nothing.
use Prim.Native.Nat.{ℕ, suc, ◌+◌, ◌-◌, ◌*◌, ◌%◌, ◌≤◌}
use mathlib.Core.Path.{◌≡◌, sym, ap, ◌∙◌}
use mathlib.Core.List.{List, [], ◌∷◌}
use native.Mathlib.Nat.{add-mul, mul-add, mod-add-mod, add-mul-mod_self_right, zero-mul}
use native.Mathlib.Omega.{arith}
use lib.IntN.{ℤ, pos, negsuc}
use lib.ListN.{get_or}
use Rattle.ladder.specs.Registers.{modulus, times_signed, signed_sum, difference_add}

-- The elements with a positive coefficient, each as often as it says ..
unfoldable pub plus : List ℤ → List ℕ → ℕ
plus [] es = 0
plus (c ∷ v) [] = 0
plus (pos c ∷ v) (e ∷ es) = c * e + plus v es
plus (negsuc c ∷ v) (e ∷ es) = plus v es

-- .. and those with a negative one.
unfoldable pub minus : List ℤ → List ℕ → ℕ
minus [] es = 0
minus (c ∷ v) [] = 0
minus (pos c ∷ v) (e ∷ es) = minus v es
minus (negsuc c ∷ v) (e ∷ es) = suc c * e + minus v es

-- The signed sum with the negative part is the positive part and a multiple of the modulus.
signed_parts : (m : ℕ) (v : List ℤ) (es : List ℕ) → ((j : ℕ) → get_or es j 0 ≤ modulus m)
    → (q : ℕ) × (signed_sum m v es + minus v es ≡ plus v es + q * modulus m)
unfolding signed_sum times_signed plus minus
signed_parts m [] es f = (0, omega (arith, zero-mul (modulus m)))
signed_parts m (c ∷ v) [] f = (0, omega (arith, zero-mul (modulus m)))
signed_parts m (pos c ∷ v) (e ∷ es) f =
    let r = signed_parts m v es (λ j. f (suc j)) in
    (r.0, omega (arith, r.1))
signed_parts m (negsuc c ∷ v) (e ∷ es) f =
    let r = signed_parts m v es (λ j. f (suc j)) in
    let whole : modulus m - e + e ≡ modulus m = omega (arith, f 0) in
    let less : suc c * (modulus m - e) + suc c * e ≡ suc c * modulus m =
    sym (mul-add (suc c) (modulus m - e) e) ∙ ap (λ n. suc c * n) whole in
    (suc c + r.0, omega (arith, r.1, add-mul (suc c) r.0 (modulus m)))

-- The addition, with the elements of negative coefficient added, is twice the register and those of positive coefficient, by the
-- modulus.
pub difference_add_is : (m : ℕ) (es : List ℕ) → ((j : ℕ) → get_or es j 0 ≤ modulus m) → (a : ℕ) (v : List ℤ)
    → (difference_add m es a v + minus v es) % modulus m ≡ (2 * a + plus v es) % modulus m
unfolding difference_add
difference_add_is m es f a v =
    let r = signed_parts m v es f in
    let parts : 2 * a + signed_sum m v es + minus v es ≡ 2 * a + plus v es + r.0 * modulus m = omega (arith, r.1) in
    mod-add-mod (2 * a + signed_sum m v es) (modulus m) (minus v es)
    ∙ ap (λ n. n % modulus m) parts
    ∙ add-mul-mod_self_right (2 * a + plus v es) r.0 (modulus m)
