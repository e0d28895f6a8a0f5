-- Orders: an arrangement has each column at exactly one place, the step and the rearranging keep arrangements, and each undoes
-- the other.
-- Assumes nothing.
use Prim.Native.Nat.{ℕ, zero, suc, pred, ◌+◌, ◌-◌, ◌≤◌, ◌<◌}
use mathlib.Core.Path.{◌≡◌, refl, sym, ap, ap₂, ◌∙◌}
use mathlib.Core.List.{List, [], ◌∷◌, ◌++◌, reverse, reverse_aux, reverse-cons, append_assoc}
use native.Mathlib.Nat.{le_of_suc-le-suc, not-suc-le-zero, sub_self, suc-sub-suc}
use native.Mathlib.Decide.{ℕ_discrete, dec_le}
use native.Mathlib.Omega.{arith}
use lib.ListN.{length, get_or, take, drop, length-append, length-drop, length-reverse, take-append-drop}
use lib.Seq.{get_or_at, take-suc, drop-cons, get_or-drop, append_snoc, take_all}
use Rattle.ladder.specs.Lists.{tabulate, same, count, ones}
use Rattle.ladder.specs.Matrix.{Arrangement, order_from, step_order}
use Rattle.ladder.specs.Encoding.{picked, passed, rearrange}
use Rattle.ladder.proofs.Lists.{length-tabulate, get_or-tabulate, same_self, same_is, count-append, count_at, place, ones_le}
use Rattle.ladder.proofs.Step.{length-step_order}

-- ---- places of an arrangement

-- A column that stands at two places is counted twice.
count_two : (S : List ℕ) (k m : ℕ) → k < m → m < length S → get_or S k 0 ≡ get_or S m 0 → 1 < count (get_or S k 0) S
unfolding count
count_two [] k m h l e = absurd (not-suc-le-zero l)
count_two (i ∷ S) k zero h l e = absurd (not-suc-le-zero h)
count_two (i ∷ S) zero (suc m) h l e = omega (arith, same_self i, count_at i S m (le_of_suc-le-suc l) (sym e))
count_two (i ∷ S) (suc k) (suc m) h l e = omega (arith, count_two S k m (le_of_suc-le-suc h) (le_of_suc-le-suc l) e)

module _ {d : ℕ} {S : List ℕ} (a : Arrangement d S) where
  -- Every column has a place ..
  pub place_of : (j : ℕ) → j < d → (k : ℕ) × (k < d) × (get_or S k 0 ≡ j)
  place_of j h =
      let p = place j S (omega (arith, a.once j h)) in
      (p.0, omega (arith, p.1, a.long), p.2)

  -- .. and only one.
  pub place_once : (k m : ℕ) → k < d → m < d → get_or S k 0 ≡ get_or S m 0 → k ≡ m
  place_once k m h l e = go (dec_le k m) (dec_le m k)
    where
      apart : (i n : ℕ) → i < n → n < d → get_or S i 0 ≡ get_or S n 0 → ⊥
      apart i n lt b q =
          omega (arith, count_two S i n lt (omega (arith, a.long)) q, a.once (get_or S i 0) (a.inside i (omega arith)))

      go : Dec (k ≤ m) → Dec (m ≤ k) → k ≡ m
      go (yes p) (yes q) = omega arith
      go (yes p) (no q) = absurd (apart k m (omega arith) l e)
      go (no p) q = absurd (apart m k (omega arith) h (sym e))

  -- A list with the same counts and the same length is an arrangement too.
  pub arrangement_by_counts : (S' : List ℕ) → length S' ≡ d → ((j : ℕ) → count j S' ≡ count j S) → Arrangement d S'
  arrangement_by_counts S' e c = record {
    long = e;
    inside = λ k h. go k h;
    once = λ j h. c j ∙ a.once j h;
  }
    where
      go : (k : ℕ) → k < d → get_or S' k 0 < d
      go k h =
          let p = place (get_or S' k 0) S
          (omega (arith, count_at (get_or S' k 0) S' k (omega (arith, e)) refl, c (get_or S' k 0))) in
          omega (arith, p.2, a.inside p.0 (omega (arith, p.1, a.long)))

-- The columns in number order.
count_rising : (n a j : ℕ) (f : ℕ → ℕ) → ((k : ℕ) → f k ≡ a + k)
    → (j < a → count j (tabulate n f) ≡ 0) × (a ≤ j → j < a + n → count j (tabulate n f) ≡ 1)
unfolding count tabulate
count_rising zero a j f e = (λ h. refl, λ h l. absurd (omega arith))
count_rising (suc n) a j f e =
    let more = count_rising n (suc a) j (λ k. f (suc k)) (λ k. e (suc k) ∙ omega arith) in
    (λ h. omega (arith, same_is (f zero) j, e zero, more.0 (omega arith)), λ h l. go more (ℕ_discrete j a) h l)
  where
    go : (j < suc a → count j (tabulate n (λ k. f (suc k))) ≡ 0) × (suc a ≤ j → j < suc a + n → count j (tabulate n (λ k. f (suc k))) ≡ 1)
        → Dec (j ≡ a) → a ≤ j → j < a + suc n → same (f zero) j + count j (tabulate n (λ k. f (suc k))) ≡ 1
    go more (yes q) h l = omega (arith, same_is (f zero) j, e zero, more.0 (omega arith))
    go more (no q) h l = omega (arith, same_is (f zero) j, e zero, more.1 (omega arith) (omega arith))

pub rising_arrangement : (d : ℕ) → Arrangement d (tabulate d (λ j. j))
rising_arrangement d = record {
  long = length-tabulate d (λ j. j);
  inside = λ k h. omega (arith, get_or-tabulate d (λ j. j) k 0 h);
  once = λ j h. (count_rising d 0 j (λ k. k) (λ k. omega arith)).1 (omega arith) (omega arith);
}

-- ---- picking and passing

pub count-picked : (j : ℕ) (S r : List ℕ) → length S ≡ length r → count j (picked S r) + count j (passed S r) ≡ count j S
unfolding count picked passed
count-picked j [] r e = omega arith
count-picked j (i ∷ S) [] e = absurd (omega arith)
count-picked j (i ∷ S) (zero ∷ r) e = omega (arith, count-picked j S r (omega arith))
count-picked j (i ∷ S) (suc b ∷ r) e = omega (arith, count-picked j S r (omega arith))

pub length-picked : (S r : List ℕ) → length S ≡ length r → length (picked S r) ≡ ones r
unfolding ones picked
length-picked [] [] e = refl
length-picked [] (b ∷ r) e = absurd (omega arith)
length-picked (i ∷ S) [] e = absurd (omega arith)
length-picked (i ∷ S) (zero ∷ r) e = length-picked S r (omega arith)
length-picked (i ∷ S) (suc b ∷ r) e = ap suc (length-picked S r (omega arith))

pub length-passed : (S r : List ℕ) → length S ≡ length r → length (passed S r) + ones r ≡ length r
unfolding ones passed
length-passed [] [] e = refl
length-passed [] (b ∷ r) e = absurd (omega arith)
length-passed (i ∷ S) [] e = absurd (omega arith)
length-passed (i ∷ S) (zero ∷ r) e = omega (arith, length-passed S r (omega arith))
length-passed (i ∷ S) (suc b ∷ r) e = omega (arith, length-passed S r (omega arith))

-- ---- the step undoes the rearranging

-- T is what is left of both ends with W between them: x stands at the end of the columns to be picked, y after W.
forth : (S r W T : List ℕ) (x y : ℕ) → length S ≡ length r → T ≡ reverse (picked S r) ++ (W ++ passed S r)
    → x ≡ length (picked S r) → y ≡ length (picked S r) + length W → order_from T x y r ≡ S
unfolding order_from picked passed
forth [] [] W T x y e t p q = refl
forth [] (b ∷ r) W T x y e t p q = absurd (omega arith)
forth (j ∷ S) [] W T x y e t p q = absurd (omega arith)
forth (j ∷ S) (zero ∷ r) W T x y e t p q =
    ap₂ (λ a rest. a ∷ rest)
    (ap (λ U. get_or U y 0) (t ∙ sym (append_assoc (reverse (picked S r)) W (j ∷ passed S r)))
    ∙ get_or_at (reverse (picked S r) ++ W) j (passed S r) 0 y
    (omega (arith, length-append (reverse (picked S r)) W, length-reverse (picked S r))))
    (forth S r (W ++ (j ∷ [])) T x (suc y) (omega arith)
    (t ∙ ap (λ U. reverse (picked S r) ++ U) (sym (append_snoc W j (passed S r))))
    p
    (omega (arith, length-append W (j ∷ []))))
forth (j ∷ S) (suc b ∷ r) W T x y e t p q =
    ap₂ (λ a rest. a ∷ rest)
    (ap (λ U. get_or U (pred x) 0) front ∙ get_or_at (reverse (picked S r)) j (W ++ passed S r) 0 (pred x) (omega (arith, length-reverse (picked S r))))
    (forth S r (j ∷ W) T (pred x) y (omega arith) front (omega arith) (omega arith))
  where
    front : T ≡ reverse (picked S r) ++ (j ∷ (W ++ passed S r))
    front =
        t ∙ ap (λ U. U ++ (W ++ passed S r)) (reverse-cons j (picked S r))
        ∙ append_snoc (reverse (picked S r)) j (W ++ passed S r)

pub step_order-rearrange : (S r : List ℕ) → length S ≡ length r → step_order (rearrange S r) r ≡ S
unfolding step_order rearrange
step_order-rearrange S r e =
    forth S r [] (reverse (picked S r) ++ passed S r) (ones r) (ones r) e refl (sym (length-picked S r e))
    (omega (arith, length-picked S r e))

-- ---- the rearranging keeps arrangements

count-reverse_aux : (j : ℕ) (s t : List ℕ) → count j (reverse_aux s t) ≡ count j s + count j t
unfolding count
count-reverse_aux j [] t = omega arith
count-reverse_aux j (i ∷ s) t = omega (arith, count-reverse_aux j s (i ∷ t))

-- The rearranging keeps every column's count ..
pub count-rearrange : (j : ℕ) (S r : List ℕ) → length S ≡ length r → count j (rearrange S r) ≡ count j S
unfolding rearrange count
count-rearrange j S r e =
    omega (arith, count-append j (reverse (picked S r)) (passed S r), count-reverse_aux j (picked S r) [], count-picked j S r e)

pub length-rearrange : (S r : List ℕ) → length S ≡ length r → length (rearrange S r) ≡ length r
unfolding rearrange
length-rearrange S r e =
    omega (arith, length-append (reverse (picked S r)) (passed S r), length-reverse (picked S r), length-picked S r e, length-passed S r e)

-- .. so it keeps arrangements.
pub arrangement_rearrange : {d : ℕ} {S : List ℕ} → Arrangement d S → (r : List ℕ) → length r ≡ d → Arrangement d (rearrange S r)
arrangement_rearrange {d} {S} a r e =
    arrangement_by_counts a (rearrange S r) (length-rearrange S r (a.long ∙ sym e) ∙ e)
    (λ j. count-rearrange j S r (a.long ∙ sym e))

-- ---- the rearranging undoes the step

picked-order : (T : List ℕ) (x y : ℕ) (r : List ℕ) → ones r ≤ x → x ≤ length T
    → reverse (picked (order_from T x y r) r) ≡ take (ones r) (drop (x - ones r) T)
unfolding order_from picked ones
picked-order T x y [] h l = refl
picked-order T x y (zero ∷ r) h l = picked-order T x (suc y) r h l
picked-order T x y (suc b ∷ r) h l =
    let from : pred x - ones r ≡ x - suc (ones r) = omega arith in
    let last : pred x ≡ x - suc (ones r) + ones r = omega arith in
    reverse-cons (get_or T (pred x) 0) (picked (order_from T (pred x) y r) r)
    ∙ ap₂ (λ U a. U ++ (a ∷ []))
    (picked-order T (pred x) y r (omega arith) (omega arith) ∙ ap (λ m. take (ones r) (drop m T)) from)
    (ap (λ m. get_or T m 0) last ∙ sym (get_or-drop (x - suc (ones r)) T (ones r) 0))
    ∙ sym (take-suc (drop (x - suc (ones r)) T) (ones r) 0 (omega (arith, length-drop (x - suc (ones r)) T)))

passed-order : (T : List ℕ) (x y : ℕ) (r : List ℕ) → y + (length r - ones r) ≤ length T
    → passed (order_from T x y r) r ≡ take (length r - ones r) (drop y T)
unfolding order_from passed ones
passed-order T x y [] h = refl
passed-order T x y (zero ∷ r) h =
    let left : suc (length r) - ones r ≡ suc (length r - ones r) = omega (arith, ones_le r) in
    ap (λ rest. get_or T y 0 ∷ rest) (passed-order T x (suc y) r (omega (arith, ones_le r)))
    ∙ sym (ap₂ (λ n U. take n U) left (drop-cons T y 0 (omega (arith, ones_le r))))
passed-order T x y (suc b ∷ r) h =
    passed-order T (pred x) y r (omega arith) ∙ ap (λ n. take n (drop y T)) (sym (suc-sub-suc (length r) (ones r)))

pub rearrange-step_order : (S r : List ℕ) → length S ≡ length r → rearrange (step_order S r) r ≡ S
unfolding step_order rearrange
rearrange-step_order S r e =
    ap₂ (λ U W. U ++ W)
    (picked-order S (ones r) (ones r) r (omega arith) (omega (arith, ones_le r)) ∙ ap (λ m. take (ones r) (drop m S)) (sub_self (ones r)))
    (passed-order S (ones r) (ones r) r (omega (arith, ones_le r))
    ∙ take_all (length r - ones r) (drop (ones r) S) (omega (arith, length-drop (ones r) S)))
    ∙ take-append-drop (ones r) S

-- A step keeps every column's count, and so keeps arrangements.
pub arrangement_step : {d : ℕ} {S : List ℕ} → Arrangement d S → (r : List ℕ) → length r ≡ d → Arrangement d (step_order S r)
arrangement_step {d} {S} a r e =
    arrangement_by_counts a (step_order S r) (length-step_order S r ∙ e)
    (λ j. sym (count-rearrange j (step_order S r) r (length-step_order S r))
    ∙ ap (λ U. count j U) (rearrange-step_order S r (a.long ∙ sym e)))
