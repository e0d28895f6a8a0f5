-- A paused walk holds the order and the signs of the walk, and its step is the walk's step.
-- Assumes nothing.
use Prim.Native.Nat.{ℕ, zero, suc, pred, ◌+◌, ◌-◌, ◌*◌, ◌/◌, ◌%◌, ◌^◌, ◌≤◌, ◌<◌}
use mathlib.Core.Path.{◌≡◌, refl, sym, ap, ap₂, subst, ◌∙◌}
use mathlib.Core.List.{List, [], ◌∷◌, map}
use native.Mathlib.Nat.{mod-eq_of_lt, pow-suc, mul_comm}
use native.Mathlib.Omega.{arith}
use lib.IntN.{ℤ, pos}
use lib.ListN.{length, get_or, length-map, length-append, length-replicate}
use lib.Seq.{take_at}
use lib.Arith.{digits_lt}
use lib.Pow.{high, low, field, mod-mod-pow}
use Rattle.ladder.specs.Lists.{tabulate}
use Rattle.ladder.specs.Matrix.{step_order, step_signs, start_signs, order_after, signs_after}
use Rattle.ladder.specs.Walk.{Walk, bits_of, walk_of, order_of, walk_signs, step_walk}
use Rattle.ladder.proofs.Lists.{length-tabulate, get_or-tabulate, tabulate-same}
use Rattle.ladder.proofs.Step.{length-step_order}
use Rattle.ladder.proofs.Signs.{length-turn}

-- ---- what a walk state holds

-- Columns counted from 1 and back are the columns.
pub pred-suc : (S : List ℕ) → map pred (map suc S) ≡ S
pred-suc [] = refl
pred-suc (j ∷ S) = ap (λ l. j ∷ l) (pred-suc S)

-- The order put into a walk state is the one that it holds.
pub order_of_walk : (d : ℕ) (S : List ℕ) (signs : List ℤ) → length S ≡ d → order_of (walk_of d S signs) ≡ S
unfolding order_of walk_of
order_of_walk d S signs e =
    ap (map pred) (take_at (map suc S) _ d (length-map S suc ∙ e)) ∙ pred-suc S

-- So are the signs.
pub signs_of_walk : (d : ℕ) (S : List ℕ) (signs : List ℤ) → length signs ≡ d → walk_signs (walk_of d S signs) ≡ signs
unfolding walk_signs walk_of
signs_of_walk d S signs e = take_at signs _ d e

-- A walk state has eight places and eight signs.
pub walk_places : (d : ℕ) (S : List ℕ) (signs : List ℤ) → d ≤ 8 → length S ≡ d → length signs ≡ d
    → (length (walk_of d S signs).order ≡ 8) × (length (walk_of d S signs).signs ≡ 8)
unfolding walk_of
walk_places d S signs h e f =
    (simp (length-append, length-map, length-replicate) (omega arith), simp (length-append, length-replicate) (omega arith))

-- The step of a walk state is the step of the order and of the signs in it.
pub step_of_walk : (d : ℕ) (S : List ℕ) (signs : List ℤ) (n : ℕ) → length S ≡ d → length signs ≡ d
    → step_walk (walk_of d S signs) n ≡ walk_of d (step_order S (bits_of d n)) (step_signs signs S (bits_of d n))
unfolding step_walk walk_of
step_of_walk d S signs n e f = rw (order_of_walk d S signs e, signs_of_walk d S signs f)

-- ---- the bits of a step as one number

-- A number stands for d bits ..
pub length-bits_of : (d n : ℕ) → length (bits_of d n) ≡ d
unfolding bits_of
length-bits_of d n = length-tabulate d (λ k. n / 2 ^ (d - suc k) % 2)

-- .. the first of the highest weight.
pub get_or-bits_of : (d n k : ℕ) → k < d → get_or (bits_of d n) k 0 ≡ n / 2 ^ (d - suc k) % 2
unfolding bits_of
get_or-bits_of d n k h = get_or-tabulate d (λ i. n / 2 ^ (d - suc i) % 2) k 0 h

-- The number of the bits r, its first bit the highest.
unfoldable pub number_of_bits : List ℕ → ℕ
number_of_bits [] = 0
number_of_bits (b ∷ r) = b * 2 ^ length r + number_of_bits r

-- It is below 2 to the number of bits.
pub number_of_bits_below : (r : List ℕ) → ((k : ℕ) → get_or r k 0 < 2) → number_of_bits r < 2 ^ length r
unfolding number_of_bits
number_of_bits_below [] bit = omega arith
number_of_bits_below (b ∷ r) bit =
    rw (pow-suc 2 (length r), mul_comm (2 ^ length r) 2) (digits_lt (bit zero) (number_of_bits_below r (λ k. bit (suc k))))

-- What stands above bit n is not seen in a bit below.
pub bit_below : (hi lo n j : ℕ) → lo < 2 ^ n → j < n → (hi * 2 ^ n + lo) / 2 ^ j % 2 ≡ lo / 2 ^ j % 2
bit_below hi lo n j h l =
    sym (field (hi * 2 ^ n + lo) 1 j)
    ∙ ap (λ m. m / 2 ^ j) (sym (masked (hi * 2 ^ n + lo)) ∙ ap (λ m. m % 2 ^ (1 + j)) (low hi n h))
    ∙ field lo 1 j
  where
    masked : (m : ℕ) → m % 2 ^ n % 2 ^ (1 + j) ≡ m % 2 ^ (1 + j)
    masked m =
        let e : n - suc j + (1 + j) ≡ n = omega arith in
        subst (λ k. m % 2 ^ k % 2 ^ (1 + j) ≡ m % 2 ^ (1 + j)) e (mod-mod-pow m (n - suc j) (1 + j))

-- The bits of that number are the bits.
pub bits_of_number_of_bits : (r : List ℕ) → ((k : ℕ) → get_or r k 0 < 2) → bits_of (length r) (number_of_bits r) ≡ r
unfolding bits_of number_of_bits tabulate
bits_of_number_of_bits [] bit = refl
bits_of_number_of_bits (b ∷ r) bit =
    ap₂ (λ a l. a ∷ l) first (tabulate-same (length r) _ _ other ∙ bits_of_number_of_bits r (λ k. bit (suc k)))
  where
    below : number_of_bits r < 2 ^ length r
    below = number_of_bits_below r (λ k. bit (suc k))

    at : (i j : ℕ) → i ≡ j → number_of_bits (b ∷ r) / 2 ^ i % 2 ≡ number_of_bits (b ∷ r) / 2 ^ j % 2
    at i j e = ap (λ k. number_of_bits (b ∷ r) / 2 ^ k % 2) e

    first : number_of_bits (b ∷ r) / 2 ^ (suc (length r) - 1) % 2 ≡ b
    first = at _ (length r) (omega arith) ∙ ap (λ q. q % 2) (high b (length r) below) ∙ mod-eq_of_lt (bit zero)

    other : (k : ℕ) → k < length r
        → number_of_bits (b ∷ r) / 2 ^ (suc (length r) - suc (suc k)) % 2 ≡ number_of_bits r / 2 ^ (length r - suc k) % 2
    other k h =
        at _ (length r - suc k) (omega arith)
        ∙ bit_below b (number_of_bits r) (length r) (length r - suc k) below (omega arith)

-- ---- many steps

-- The walk state after n steps from a start order.
unfoldable pub walk_after : ℕ → List ℕ → (ℕ → List ℕ) → ℕ → Walk
walk_after d S r zero = walk_of d S (start_signs d)
walk_after d S r (suc n) = step_walk (walk_after d S r n) (number_of_bits (r n))

-- After any number of steps the order has d places ..
pub length-order_after : (d : ℕ) (S : List ℕ) (r : ℕ → List ℕ) → length S ≡ d → ((s : ℕ) → length (r s) ≡ d)
    → (n : ℕ) → length (order_after S r n) ≡ d
unfolding order_after
length-order_after d S r e long zero = e
length-order_after d S r e long (suc n) = length-step_order (order_after S r n) (r n) ∙ long n

-- .. and there are d signs.
pub length-signs_after : (d : ℕ) (S : List ℕ) (r : ℕ → List ℕ) (n : ℕ) → length (signs_after d S r n) ≡ d
unfolding signs_after start_signs step_signs
length-signs_after d S r zero = length-replicate d (pos 1)
length-signs_after d S r (suc n) = length-turn _ _ (r n) ∙ length-signs_after d S r n

-- The walk state after n steps holds the order and the signs after n steps.
pub walk_after_lem : (d : ℕ) (S : List ℕ) (r : ℕ → List ℕ) → length S ≡ d → ((s : ℕ) → length (r s) ≡ d)
    → ((s k : ℕ) → get_or (r s) k 0 < 2) → (n : ℕ) → walk_after d S r n ≡ walk_of d (order_after S r n) (signs_after d S r n)
unfolding walk_after order_after signs_after
walk_after_lem d S r e long bit zero = refl
walk_after_lem d S r e long bit (suc n) =
    let bits = ap (λ m. bits_of m (number_of_bits (r n))) (sym (long n)) ∙ bits_of_number_of_bits (r n) (bit n) in
    ap (λ w. step_walk w (number_of_bits (r n))) (walk_after_lem d S r e long bit n)
    ∙ step_of_walk d _ _ (number_of_bits (r n)) (length-order_after d S r e long n) (length-signs_after d S r n)
    ∙ ap (λ b. walk_of d (step_order (order_after S r n) b) (step_signs (signs_after d S r n) (order_after S r n) b)) bits
