-- Columns counted above a row: each place passed adds one to its column's count.
-- Assumes nothing.
use Rattle.std.proofs.Common.{◌≡◌, ℕ, suc, ◌+◌, ◌-◌, ◌<◌, ◌≤◌, List, [], ◌∷◌, length, get_or, take, set, replicate, sym, refl, ap, ◌∙◌, add-one, arith, length-set, length-take, get_or-set_other, take-suc, get_or-set_same}
use native.Mathlib.Decide.{ℕ_discrete, dec_le}
use lib.ListN.{get_or-eq_default}
use Rattle.ladder.specs.Lists.{count, same}
use Rattle.ladder.proofs.Lists.{get_or_zeros, same_is, count-append}

count_le : (j : ℕ) (s : List ℕ) → count j s ≤ length s
unfolding count
count_le j [] = omega arith
count_le j (i ∷ s) = omega (arith, same_is i j, count_le j s)

-- What is counted when i places are passed.
pub record Above (order above : List ℕ) (i : ℕ) : Type 0 where
  pub long : length above ≡ 8
  pub counts : (j : ℕ) → j < 8 → get_or above j 0 ≡ count (suc j) (take i order)

-- No place is passed.
pub above_none : (order : List ℕ) → Above order (replicate 8 0) 0
unfolding count
above_none order = record { long = refl; counts = λ j h. get_or_zeros 8 j }

-- A count is at most the places passed.
pub above_few : (order above : List ℕ) (i j : ℕ) → Above order above i → j < 8 → get_or above j 0 ≤ i
above_few order above i j a h = omega (arith, a.counts j h, count_le (suc j) (take i order), length-take i order)

place_inside : (order : List ℕ) (i : ℕ) → 1 ≤ get_or order i 0 → i < length order
place_inside order i low = go (dec_le (suc i) (length order))
  where
    go : Dec (i < length order) → i < length order
    go (yes h) = h
    go (no h) = absurd (omega (arith, get_or-eq_default order 0 {n = i} (omega arith)))

count_place : (order : List ℕ) (i c : ℕ) → i < length order → count c (take (i + 1) order) ≡ count c (take i order) + same (get_or order i 0) c
unfolding count
count_place order i c h =
    ap (λ n. count c (take n order)) (add-one i) ∙ ap (count c) (take-suc order i 0 h)
    ∙ count-append c (take i order) (get_or order i 0 ∷ []) ∙ omega arith

pub above_next : (order above : List ℕ) (i : ℕ) → Above order above i → 1 ≤ get_or order i 0 → get_or order i 0 ≤ 8
    → Above order (set above (get_or order i 0 - 1) (get_or above (get_or order i 0 - 1) 0 + 1)) (i + 1)
above_next order above i a low high = record {
  long = length-set above (get_or order i 0 - 1) _ ∙ a.long;
  counts = λ j h. at j h (ℕ_discrete j (get_or order i 0 - 1)) ∙ sym (count_place order i (suc j) (place_inside order i low));
}
  where
    at : (j : ℕ) → j < 8 → Dec (j ≡ get_or order i 0 - 1)
        → get_or (set above (get_or order i 0 - 1) (get_or above (get_or order i 0 - 1) 0 + 1)) j 0
        ≡ count (suc j) (take i order) + same (get_or order i 0) (suc j)
    at j h (yes e) =
        ap (λ n. get_or (set above (get_or order i 0 - 1) (get_or above (get_or order i 0 - 1) 0 + 1)) n 0) e
        ∙ get_or-set_same above (get_or order i 0 - 1) _ 0 (omega (arith, a.long))
        ∙ omega (arith, ap (λ n. get_or above n 0) e, a.counts j h, same_is (get_or order i 0) (suc j))
    at j h (no e) =
        get_or-set_other above (get_or order i 0 - 1) j _ 0 e
        ∙ omega (arith, a.counts j h, same_is (get_or order i 0) (suc j))
