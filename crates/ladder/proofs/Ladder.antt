-- Many steps: the start matrix is a state matrix, so is the matrix after each step, with the order and signs that the rules give.
-- Each column holds a number and the next one; the lower of the two is doubled by a step, and one more where its parity and
-- the column's bit say so.
-- Assumes nothing.
use Prim.Native.Nat.{ℕ, zero, suc, ◌+◌, ◌-◌, ◌*◌, ◌%◌, ◌^◌, ◌≤◌, ◌<◌, min}
use mathlib.Core.Path.{◌≡◌, refl, sym, ap, ap₂, subst, ◌∙◌}
use mathlib.Core.Logic.{◌⊎◌, inl, inr, ⊎_elim}
use mathlib.Core.List.{List, [], ◌∷◌}
use native.Mathlib.Nat.{le_of_suc-le-suc, not-suc-le-zero, pow-suc}
use native.Mathlib.Decide.{ℕ_discrete, dec_le}
use native.Mathlib.Omega.{arith}
use lib.IntN.{pos, negsuc}
use lib.ListN.{length, get_or, take, drop, replicate, set, length-take, length-drop, length-replicate, get_or-replicate, take-append-drop, length-set, get_or-eq_default}
use lib.Seq.{ext_get_or, get_or-set_same, get_or-set_other, get_or-take, get_or-drop}
use Rattle.ladder.specs.Lists.{same, count}
use Rattle.ladder.specs.Matrix.{Row, Matrix, row, entry, Arrangement, StateMatrix, sign_of, signs_of, bump, rows_from, start_matrix, start_signs, step, step_order, step_signs, matrix_after, order_after, signs_after}
use Rattle.ladder.proofs.Lists.{get_or_zeros, same_is, same_self, count-append, count_at}
use Rattle.ladder.proofs.Order.{place_of}
use Rattle.ladder.proofs.Stairs.{Stairs, stairs, from_stairs, next_even, stair_step, new_order}
use Rattle.ladder.proofs.Signs.{sign_up, sign_down, length-signs_of, get_or-signs_of}
use Rattle.ladder.proofs.State.{step_state, step_signs_lem}

-- ---- the start matrix

get_or-bump : (u : Row) (i j : ℕ) → j < length u → get_or (bump u i) j 0 ≡ get_or u j 0 + same i j
unfolding bump
get_or-bump u i j h = go (ℕ_discrete j i)
  where
    go : Dec (j ≡ i) → get_or (set u i (suc (get_or u i 0))) j 0 ≡ get_or u j 0 + same i j
    go (yes e) =
        subst (λ c. get_or (set u c (suc (get_or u c 0))) j 0 ≡ get_or u j 0 + same c j) e
        (get_or-set_same u j (suc (get_or u j 0)) 0 h ∙ omega (arith, same_self j))
    go (no n) = get_or-set_other u i j (suc (get_or u i 0)) 0 n ∙ omega (arith, same_is i j)

pub length-bump : (u : Row) (i : ℕ) → length (bump u i) ≡ length u
unfolding bump
length-bump u i = length-set u i (suc (get_or u i 0))

length-rows_from : (u : Row) (S : List ℕ) → length (rows_from u S) ≡ suc (length S)
unfolding rows_from
length-rows_from u [] = refl
length-rows_from u (j ∷ S) = ap suc (length-rows_from (bump u j) S)

wide_rows_from : (u : Row) (S : List ℕ) (i : ℕ) → i ≤ length S → length (row (rows_from u S) i) ≡ length u
unfolding rows_from
wide_rows_from u [] zero h = refl
wide_rows_from u [] (suc i) h = absurd (not-suc-le-zero h)
wide_rows_from u (j ∷ S) zero h = refl
wide_rows_from u (j ∷ S) (suc i) h = wide_rows_from (bump u j) S i (le_of_suc-le-suc h) ∙ length-bump u j

-- Row i has in column j how often j stands among the first i places.
entry-rows_from : (u : Row) (S : List ℕ) (i j : ℕ) → j < length u → i ≤ length S
    → entry (rows_from u S) i j ≡ get_or u j 0 + count j (take i S)
unfolding rows_from count
entry-rows_from u [] zero j h l = omega arith
entry-rows_from u [] (suc i) j h l = absurd (not-suc-le-zero l)
entry-rows_from u (k ∷ S) zero j h l = omega arith
entry-rows_from u (k ∷ S) (suc i) j h l =
    entry-rows_from (bump u k) S i j (omega (arith, length-bump u k)) (le_of_suc-le-suc l) ∙ omega (arith, get_or-bump u k j h)

-- A column that stands once, at place k, is not among the first i places for i ≤ k, and is among them for i > k.
pub count_before : (S : List ℕ) (k i : ℕ) → k < length S → count (get_or S k 0) S ≡ 1 → i ≤ k → count (get_or S k 0) (take i S) ≡ 0
count_before S k i h c l =
    let j = get_or S k 0 in
    let further : get_or (drop i S) (k - i) 0 ≡ j = get_or-drop i S (k - i) 0 ∙ ap (λ n. get_or S n 0) (omega arith) in
    omega (
      arith,
      ap (count j) (take-append-drop i S),
      count-append j (take i S) (drop i S),
      count_at j (drop i S) (k - i) (omega (arith, length-drop i S)) further,
    )

pub count_after : (S : List ℕ) (k i : ℕ) → k < length S → count (get_or S k 0) S ≡ 1 → k < i → count (get_or S k 0) (take i S) ≡ 1
count_after S k i h c l =
    let j = get_or S k 0 in
    omega (
      arith,
      ap (count j) (take-append-drop i S),
      count-append j (take i S) (drop i S),
      count_at j (take i S) k (omega (arith, length-take i S)) (get_or-take i S k 0 l),
    )

module _ {d : ℕ} {S : List ℕ} (a : Arrangement d S) where
  entry_start : (i j : ℕ) → j < d → i ≤ d → entry (start_matrix d S) i j ≡ count j (take i S)
  unfolding start_matrix
  entry_start i j h l =
      entry-rows_from (replicate d zero) S i j (omega (arith, length-replicate d zero)) (omega (arith, a.long))
      ∙ omega (arith, get_or_zeros d j)

  first_row : (j : ℕ) → entry (start_matrix d S) 0 j ≡ 0
  unfolding start_matrix rows_from
  first_row j = first S ∙ get_or_zeros d j
    where
      first : (U : List ℕ) → entry (rows_from (replicate d zero) U) 0 j ≡ get_or (replicate d zero) j 0
      first [] = refl
      first (k ∷ U) = refl

  last_row : (j : ℕ) → j < d → entry (start_matrix d S) d j ≡ 1
  last_row j h =
      let p = place_of a j h in
      entry_start d j h (omega arith)
      ∙ subst (λ c. count c (take d S) ≡ 1) p.2
      (count_after S p.0 d (omega (arith, p.1, a.long)) (ap (λ c. count c S) p.2 ∙ a.once j h) p.1)

  pub start_stairs : Stairs d (start_matrix d S) S
  unfolding start_matrix
  start_stairs = record {
    rows = length-rows_from (replicate d zero) S ∙ ap suc a.long;
    wide = λ i h. wide_rows_from (replicate d zero) S i (omega (arith, a.long)) ∙ length-replicate d zero;
    order = a;
    stair = λ k h.
        let j = get_or S k 0 in
        let inside = a.inside k h in
        let here : k < length S = omega (arith, a.long) in
        record {
          upper = λ i l.
              entry_start i j inside (omega arith) ∙ count_before S k i here (a.once j inside) l ∙ sym (first_row j);
          lower = λ i l m. entry_start i j inside m ∙ count_after S k i here (a.once j inside) l ∙ sym (last_row j inside);
        };
    even = λ j. ap (λ n. n % 2) (first_row j);
    apart = λ j h. inl (last_row j h ∙ ap suc (sym (first_row j)));
  }

  -- The start matrix is a state matrix with the start order, and all its signs are +1.
  pub start_state : StateMatrix d (start_matrix d S) S
  start_state = from_stairs start_stairs

  pub start_signs_lem : signs_of d (start_matrix d S) ≡ start_signs d
  unfolding start_signs
  start_signs_lem =
      ext_get_or (pos 0) (signs_of d (start_matrix d S)) (replicate d (pos 1))
      (length-signs_of d (start_matrix d S) ∙ sym (length-replicate d (pos 1)))
      (λ j h.
      let l : j < d = omega (arith, length-signs_of d (start_matrix d S)) in
      get_or-signs_of d (start_matrix d S) j l
      ∙ sign_up (entry (start_matrix d S) 0 j) (entry (start_matrix d S) d j) (last_row j l ∙ ap suc (sym (first_row j)))
      ∙ sym (get_or-replicate d j (pos 1) (pos 0) l))

-- ---- the lower neighbour of a column

-- The lower of a column's two numbers.
abbrev pub lower : ℕ → Matrix → ℕ → ℕ
lower d B j = min (entry B 0 j) (entry B d j)

module _ {d : ℕ} {B : Matrix} {S : List ℕ} (C : Stairs d B S) where
  -- An entry is the one of the two whose parity says whether the column's place lies above the row.
  pub entry_by_place : (k : ℕ) → k < d → (i : ℕ) → i ≤ d
      → entry B i (get_or S k 0) ≡ lower d B (get_or S k 0) + (lower d B (get_or S k 0) + count (get_or S k 0) (take i S)) % 2
  entry_by_place k h i l = go (dec_le i k) (C.apart j inside)
    where
      j : ℕ
      j = get_or S k 0

      inside : get_or S k 0 < d
      inside = C.order.inside k h

      place_here : k < length S
      place_here = omega (arith, C.order.long)

      up : i ≤ k → count (get_or S k 0) (take i S) ≡ 0
      up q = count_before S k i place_here (C.order.once (get_or S k 0) inside) q

      down : k < i → count (get_or S k 0) (take i S) ≡ 1
      down q = count_after S k i place_here (C.order.once (get_or S k 0) inside) q

      go : Dec (i ≤ k)
          → (entry B d (get_or S k 0) ≡ suc (entry B 0 (get_or S k 0))) ⊎ (entry B 0 (get_or S k 0) ≡ suc (entry B d (get_or S k 0)))
          → entry B i (get_or S k 0) ≡ lower d B (get_or S k 0) + (lower d B (get_or S k 0) + count (get_or S k 0) (take i S)) % 2
      go (yes q) (inl p) = omega (arith, (C.stair k h).upper i q, up q, C.even (get_or S k 0))
      go (yes q) (inr p) = omega (arith, (C.stair k h).upper i q, up q, C.even (get_or S k 0))
      go (no q) (inl p) = omega (arith, (C.stair k h).lower i (omega arith) l, down (omega arith), C.even (get_or S k 0))
      go (no q) (inr p) = omega (arith, (C.stair k h).lower i (omega arith) l, down (omega arith), C.even (get_or S k 0))

  pub entry_by_order : (j : ℕ) → j < d → (i : ℕ) → i ≤ d
      → entry B i j ≡ lower d B j + (lower d B j + count j (take i S)) % 2
  entry_by_order j h i l =
      let p = place_of C.order j h in
      subst (λ c. entry B i c ≡ lower d B c + (lower d B c + count c (take i S)) % 2) p.2 (entry_by_place p.0 p.1 i l)

  -- The sign says whether the lower number is even.
  pub sign_by_lower : (j : ℕ) → j < d
      → ((sign_of (entry B 0 j) (entry B d j) ≡ pos 1) × (lower d B j % 2 ≡ 0))
      ⊎ ((sign_of (entry B 0 j) (entry B d j) ≡ negsuc 0) × (lower d B j % 2 ≡ 1))
  sign_by_lower j h =
      ⊎_elim
      (λ p. inl (sign_up (entry B 0 j) (entry B d j) p, omega (arith, C.even j)))
      (λ p. inr (sign_down (entry B 0 j) (entry B d j) p, omega (arith, C.even j)))
      (C.apart j h)

  -- A step doubles the lower number, and adds one where it and the column's bit differ in parity.
  pub lower_step : (r : List ℕ) → length r ≡ d → (k : ℕ) → k < d → get_or r k 0 < 2
      → lower d (step B r) (get_or (step_order S r) k 0)
      ≡ 2 * lower d B (get_or (step_order S r) k 0) + (lower d B (get_or (step_order S r) k 0) + get_or r k 0) % 2
  lower_step r long k h small =
      let j = get_or (step_order S r) k 0 in
      let st = stair_step C r long k h in
      ap₂ min (st.upper 0 (omega arith)) (st.lower d h (omega arith))
      ∙ go (get_or r k 0) (entry B 0 j) (entry B d j) small (C.even j) (C.apart j ((new_order C r long).inside k h))
    where
      go : (b e o : ℕ) → b < 2 → e % 2 ≡ 0 → (o ≡ suc e) ⊎ (e ≡ suc o)
          → min (next_even b e o) (e + o) ≡ 2 * min e o + (min e o + b) % 2
      go zero e o s p (inl q) = let t : (min e o + 0) % 2 ≡ e % 2 = ap (λ n. n % 2) (omega arith) in omega arith
      go zero e o s p (inr q) =
          let t : (min e o + 0) % 2 ≡ o % 2 = ap (λ n. n % 2) (omega arith) in let u : o % 2 ≡ 1 = omega arith in omega arith
      go (suc zero) e o s p (inl q) = let t : (min e o + 1) % 2 ≡ suc e % 2 = ap (λ n. n % 2) (omega arith) in omega arith
      go (suc zero) e o s p (inr q) = let t : (min e o + 1) % 2 ≡ e % 2 = ap (λ n. n % 2) (omega arith) in omega arith
      go (suc (suc b)) e o s p q = absurd (omega arith)

-- ---- many steps

module _ {d : ℕ} {S : List ℕ} (a : Arrangement d S) (r : ℕ → List ℕ) (long : (s : ℕ) → length (r s) ≡ d) where
  -- Before and after every step there is a state matrix, and its order is the one that the rule gives.
  pub state_after : (n : ℕ) → StateMatrix d (matrix_after d S r n) (order_after S r n)
  unfolding matrix_after order_after
  state_after zero = start_state a
  state_after (suc n) = step_state (state_after n) (r n) (long n)

  pub stairs_after : (n : ℕ) → Stairs d (matrix_after d S r n) (order_after S r n)
  stairs_after n = stairs (state_after n)

  -- Its signs are those that the rule gives.
  pub signs_after_lem : (n : ℕ) → signs_of d (matrix_after d S r n) ≡ signs_after d S r n
  unfolding matrix_after order_after signs_after
  signs_after_lem zero = start_signs_lem a
  signs_after_lem (suc n) =
      step_signs_lem (state_after n) (r n) (long n) ∙ ap (λ s. step_signs s (order_after S r n) (r n)) (signs_after_lem n)

  -- Before the first step every lower number is 0.
  pub lower_after_zero : (j : ℕ) → lower d (matrix_after d S r zero) j ≡ 0
  unfolding matrix_after
  lower_after_zero j = omega (arith, first_row a j)

  -- The lower number of the column that stands at place k after step n, whose bit is r n's bit k.
  pub lower_after : (n k : ℕ) → k < d → get_or (r n) k 0 < 2
      → lower d (matrix_after d S r (suc n)) (get_or (order_after S r (suc n)) k 0)
      ≡ 2 * lower d (matrix_after d S r n) (get_or (order_after S r (suc n)) k 0)
      + (lower d (matrix_after d S r n) (get_or (order_after S r (suc n)) k 0) + get_or (r n) k 0) % 2
  unfolding matrix_after order_after
  lower_after n k h small = lower_step (stairs_after n) (r n) (long n) k h small

  -- The lower number after n steps is below 2^n.
  pub lower_bound : ((s k : ℕ) → get_or (r s) k 0 < 2) → (n j : ℕ) → j < d → lower d (matrix_after d S r n) j < 2 ^ n
  lower_bound small zero j h = omega (arith, lower_after_zero j)
  lower_bound small (suc n) j h =
      let p = place_of (state_after (suc n)).order j h in
      let e = subst
      (λ c. lower d (matrix_after d S r (suc n)) c
      ≡ 2 * lower d (matrix_after d S r n) c + (lower d (matrix_after d S r n) c + get_or (r n) p.0 0) % 2)
      p.2 (lower_after n p.0 p.1 (small n p.0)) in
      omega (arith, e, lower_bound small n j h, pow-suc 2 n)

  -- Every entry after n steps is at most 2^n.
  pub entry_bound : ((s k : ℕ) → get_or (r s) k 0 < 2) → (n i j : ℕ) → i ≤ d → entry (matrix_after d S r n) i j ≤ 2 ^ n
  entry_bound small n i j l = go (dec_le (suc j) d)
    where
      go : Dec (j < d) → entry (matrix_after d S r n) i j ≤ 2 ^ n
      go (yes h) = omega (arith, entry_by_order (stairs_after n) j h i l, lower_bound small n j h)
      go (no h) =
          omega (arith, get_or-eq_default (row (matrix_after d S r n) i) 0 {n = j} (omega (arith, (state_after n).wide i l)))

-- ---- only the bits of the steps taken count

pub matrix_same : (d : ℕ) (S : List ℕ) (r q : ℕ → List ℕ) (n : ℕ) → ((s : ℕ) → s < n → r s ≡ q s)
    → matrix_after d S r n ≡ matrix_after d S q n
unfolding matrix_after
matrix_same d S r q zero e = refl
matrix_same d S r q (suc n) e = ap₂ step (matrix_same d S r q n (λ s h. e s (omega arith))) (e n (omega arith))

pub order_same : (S : List ℕ) (r q : ℕ → List ℕ) (n : ℕ) → ((s : ℕ) → s < n → r s ≡ q s) → order_after S r n ≡ order_after S q n
unfolding order_after
order_same S r q zero e = refl
order_same S r q (suc n) e = ap₂ step_order (order_same S r q n (λ s h. e s (omega arith))) (e n (omega arith))

pub signs_same : (d : ℕ) (S : List ℕ) (r q : ℕ → List ℕ) (n : ℕ) → ((s : ℕ) → s < n → r s ≡ q s)
    → signs_after d S r n ≡ signs_after d S q n
unfolding signs_after
signs_same d S r q zero e = refl
signs_same d S r q (suc n) e =
    let before : (s : ℕ) → s < n → r s ≡ q s = λ s h. e s (omega arith) in
    ap₂ (λ f g. f g) (ap₂ step_signs (signs_same d S r q n before) (order_same S r q n before)) (e n (omega arith))
