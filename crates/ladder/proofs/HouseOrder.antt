-- The house order is an arrangement with every odd scalar's column before every even one's.
-- Assumes nothing.
use Prim.Native.Nat.{ℕ, zero, suc, ◌+◌, ◌-◌, ◌%◌, ◌≤◌, ◌<◌}
use mathlib.Core.Path.{◌≡◌, refl, sym, ap, ◌∙◌}
use mathlib.Core.List.{List, [], ◌∷◌, ◌++◌, map}
use native.Mathlib.Nat.{le_of_suc-le-suc, not-suc-le-zero}
use native.Mathlib.Decide.{dec_le}
use native.Mathlib.Omega.{arith}
use lib.ListN.{length, get_or, length-map, length-append, get_or-append}
use lib.Seq.{get_or-append-add}
use Rattle.ladder.specs.Lists.{tabulate}
use Rattle.ladder.specs.Matrix.{Arrangement}
use Rattle.ladder.specs.Encoding.{picked, passed, house_order}
use Rattle.ladder.proofs.Lists.{length-tabulate, get_or-tabulate, get_or-map, count-append}
use Rattle.ladder.proofs.Order.{arrangement_by_counts, rising_arrangement, count-picked, length-picked, length-passed}
use Rattle.ladder.proofs.Encoding.{OddFirst}

-- What is picked stood at a place with bit 1, what is passed at a place with bit 0.
picked_from : (S r : List ℕ) (k : ℕ) → k < length (picked S r)
    → (m : ℕ) × (m < length S) × (get_or (picked S r) k 0 ≡ get_or S m 0) × (0 < get_or r m 0)
unfolding picked
picked_from [] r k h = absurd (not-suc-le-zero h)
picked_from (j ∷ S) [] k h = absurd (not-suc-le-zero h)
picked_from (j ∷ S) (zero ∷ r) k h = let m = picked_from S r k h in (suc m.0, omega (arith, m.1), m.2, m.3)
picked_from (j ∷ S) (suc b ∷ r) zero h = (zero, omega arith, refl, omega arith)
picked_from (j ∷ S) (suc b ∷ r) (suc k) h =
    let m = picked_from S r k (le_of_suc-le-suc h) in (suc m.0, omega (arith, m.1), m.2, m.3)

passed_from : (S r : List ℕ) (k : ℕ) → k < length (passed S r)
    → (m : ℕ) × (m < length S) × (get_or (passed S r) k 0 ≡ get_or S m 0) × (get_or r m 0 ≡ 0)
unfolding passed
passed_from [] r k h = absurd (not-suc-le-zero h)
passed_from (j ∷ S) [] k h = absurd (not-suc-le-zero h)
passed_from (j ∷ S) (zero ∷ r) zero h = (zero, omega arith, refl, refl)
passed_from (j ∷ S) (zero ∷ r) (suc k) h =
    let m = passed_from S r k (le_of_suc-le-suc h) in (suc m.0, omega (arith, m.1), m.2, m.3)
passed_from (j ∷ S) (suc b ∷ r) k h = let m = passed_from S r k h in (suc m.0, omega (arith, m.1), m.2, m.3)

module _ (d : ℕ) (ks : List ℕ) (wide : length ks ≡ d) where
  abbrev rising : List ℕ
  rising = tabulate d (λ j. j)

  abbrev parities : List ℕ
  parities = map (λ n. n % 2) ks

  lengths : length rising ≡ length parities
  lengths = length-tabulate d (λ j. j) ∙ sym wide ∙ sym (length-map ks (λ n. n % 2))

  -- The house order is an arrangement ..
  pub house_arrangement : Arrangement d (house_order d ks)
  unfolding house_order
  house_arrangement =
      arrangement_by_counts (rising_arrangement d) (picked rising parities ++ passed rising parities)
      (omega (
        arith,
        length-append (picked rising parities) (passed rising parities),
        length-picked rising parities lengths,
        length-passed rising parities lengths,
        length-map ks (λ n. n % 2),
      ))
      (λ j. count-append j (picked rising parities) (passed rising parities) ∙ count-picked j rising parities lengths)

  parity_at : (m : ℕ) → m < length rising → get_or parities m 0 ≡ get_or ks (get_or rising m 0) 0 % 2
  parity_at m h =
      let q : m < d = omega (arith, length-tabulate d (λ (j : ℕ). j)) in
      get_or-map (λ n. n % 2) ks m 0 0 (omega arith) ∙ ap (λ c. get_or ks c 0 % 2) (sym (get_or-tabulate d (λ j. j) m 0 q))

  first_odd : (k : ℕ) → k < length (picked rising parities) → get_or ks (get_or (house_order d ks) k 0) 0 % 2 ≡ 1
  unfolding house_order
  first_odd k h =
      let m = picked_from rising parities k h in
      ap (λ c. get_or ks c 0 % 2) (get_or-append (picked rising parities) (passed rising parities) 0 k h ∙ m.2)
      ∙ omega (arith, parity_at m.0 m.1, m.3)

  then_even : (k : ℕ) → k < d → length (picked rising parities) ≤ k → get_or ks (get_or (house_order d ks) k 0) 0 % 2 ≡ 0
  unfolding house_order
  then_even k h q =
      let i = k - length (picked rising parities) in
      let m = passed_from rising parities i
      (omega (arith, length-picked rising parities lengths, length-passed rising parities lengths, length-map ks (λ n. n % 2))) in
      let e : length (picked rising parities) + i ≡ k = omega arith in
      ap (λ c. get_or ks c 0 % 2)
      (ap (λ n. get_or (picked rising parities ++ passed rising parities) n 0) (sym e)
      ∙ get_or-append-add (picked rising parities) (passed rising parities) i 0
      ∙ m.2)
      ∙ sym (parity_at m.0 m.1) ∙ m.3

  -- .. with every odd scalar's column before every even one's.
  pub house_odd_first : OddFirst d ks (house_order d ks)
  house_odd_first = record { before = λ k m h q o e. go k m h q o e (dec_le (suc k) (length (picked rising parities))) (dec_le (suc m) (length (picked rising parities))) }
    where
      go : (k m : ℕ) → k < d → m < d → get_or ks (get_or (house_order d ks) k 0) 0 % 2 ≡ 1
          → get_or ks (get_or (house_order d ks) m 0) 0 % 2 ≡ 0
          → Dec (k < length (picked rising parities)) → Dec (m < length (picked rising parities)) → k < m
      go k m h q o e x (yes y) = absurd (omega (arith, first_odd m y))
      go k m h q o e (yes x) (no y) = omega arith
      go k m h q o e (no x) (no y) = absurd (omega (arith, then_even k h (omega arith)))
