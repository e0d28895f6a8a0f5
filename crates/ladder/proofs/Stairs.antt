-- State matrices by their columns: a column is a stair, its even entry down to its place and its odd entry below. A step takes
-- stairs to stairs.
-- Assumes nothing.
use Prim.Native.Nat.{ℕ, zero, suc, ◌+◌, ◌%◌, ◌≤◌, ◌<◌}
use mathlib.Core.Path.{◌≡◌, refl, sym, ap, ap₂, subst, ◌∙◌}
use mathlib.Core.Logic.{◌≢◌, ◌⊎◌, inl, inr, ⊎_elim}
use mathlib.Core.List.{List, [], ◌∷◌}
use native.Mathlib.Nat.{le_of_suc-le-suc, not-suc-le-zero}
use native.Mathlib.Decide.{ℕ_discrete, dec_le}
use native.Mathlib.Omega.{arith}
use lib.ListN.{length, get_or, get_or-eq_default}
use lib.Seq.{ext_get_or}
use Rattle.ladder.specs.Lists.{odds}
use Rattle.ladder.specs.Matrix.{Row, Matrix, row, entry, Arrangement, StateMatrix, step, step_order}
use Rattle.ladder.proofs.Lists.{ones_le}
use Rattle.ladder.proofs.Step.{ones_to_le, ones_to_between, ones_to_all, ones_to_one, ones_to_zero, row_x, row_y, row_x_inside, row_y_inside, length-step, entry-step, wide_step, step_order_one, step_order_zero}
use Rattle.ladder.proofs.Order.{place_of, place_once, arrangement_step}

-- ---- columns as stairs

-- Column j is e in rows 0 to k and o in the rows below.
pub record Stair (d : ℕ) (B : Matrix) (j k e o : ℕ) : Type 0 where
  pub upper : (i : ℕ) → i ≤ k → entry B i j ≡ e
  pub lower : (i : ℕ) → k < i → i ≤ d → entry B i j ≡ o

-- A state matrix by its columns: each is a stair at its place, from an even entry to one that is one apart.
pub record Stairs (d : ℕ) (B : Matrix) (S : List ℕ) : Type 0 where
  pub rows : length B ≡ suc d
  pub wide : (i : ℕ) → i ≤ d → length (row B i) ≡ d
  pub order : Arrangement d S
  pub stair : (k : ℕ) → k < d → Stair d B (get_or S k 0) k (entry B 0 (get_or S k 0)) (entry B d (get_or S k 0))
  pub even : (j : ℕ) → entry B 0 j % 2 ≡ 0
  pub apart : (j : ℕ) → j < d → (entry B d j ≡ suc (entry B 0 j)) ⊎ (entry B 0 j ≡ suc (entry B d j))

-- ---- odd entries

odds_none : (u : Row) → odds u ≡ 0 → (j : ℕ) → get_or u j 0 % 2 ≡ 0
unfolding odds
odds_none [] h j = refl
odds_none (a ∷ u) h zero = omega arith
odds_none (a ∷ u) h (suc j) = odds_none u (omega arith) j

none_odds : (u : Row) → ((j : ℕ) → get_or u j 0 % 2 ≡ 0) → odds u ≡ 0
unfolding odds
none_odds [] h = refl
none_odds (a ∷ u) h = omega (arith, h zero, none_odds u (λ j. h (suc j)))

-- Where one even entry becomes odd and the others stay, there is one odd entry more.
odds_more : (u v : Row) (j : ℕ) → length u ≡ length v → j < length u → ((i : ℕ) → i ≢ j → get_or u i 0 ≡ get_or v i 0)
    → get_or u j 0 % 2 ≡ 0 → get_or v j 0 % 2 ≡ 1 → odds v ≡ suc (odds u)
unfolding odds
odds_more [] v j e h s p q = absurd (not-suc-le-zero h)
odds_more (a ∷ u) [] j e h s p q = absurd (omega arith)
odds_more (a ∷ u) (b ∷ v) zero e h s p q =
    let t : u ≡ v = ext_get_or 0 u v (omega arith) (λ i l. s (suc i) (omega arith)) in
    omega (arith, ap odds t)
odds_more (a ∷ u) (b ∷ v) (suc j) e h s p q =
    omega (
      arith,
      s zero (omega arith),
      ap (λ n. n % 2) (s zero (omega arith)),
      odds_more u v j (omega arith) (le_of_suc-le-suc h) (λ i n. s (suc i) (λ g. n (omega arith))) p q,
    )

-- ---- from a state matrix to its columns

module _ {d : ℕ} {B : Matrix} {S : List ℕ} (M : StateMatrix d B S) where
  -- From row i to the next, a column at another place stays.
  stays : (k i : ℕ) → k < d → i < d → i ≢ k → entry B i (get_or S k 0) ≡ entry B (suc i) (get_or S k 0)
  stays k i h l n = (M.next i l).elsewhere (get_or S k 0) (λ e. n (place_once M.order i k l h (sym e)))

  upper_part : (k : ℕ) → k < d → (i : ℕ) → i ≤ k → entry B i (get_or S k 0) ≡ entry B 0 (get_or S k 0)
  upper_part k h zero l = refl
  upper_part k h (suc i) l = sym (stays k i h (omega arith) (omega arith)) ∙ upper_part k h i (omega arith)

  below_place : (k : ℕ) → k < d → (i : ℕ) → k < i → i ≤ d → entry B i (get_or S k 0) ≡ entry B (suc k) (get_or S k 0)
  below_place k h zero l m = absurd (not-suc-le-zero l)
  below_place k h (suc i) l m = go (ℕ_discrete i k) (λ q. below_place k h i q (omega arith))
    where
      go : Dec (i ≡ k) → (k < i → entry B i (get_or S k 0) ≡ entry B (suc k) (get_or S k 0))
          → entry B (suc i) (get_or S k 0) ≡ entry B (suc k) (get_or S k 0)
      go (yes e) rest = ap (λ n. entry B (suc n) (get_or S k 0)) e
      go (no n) rest = sym (stays k i h m n) ∙ rest (omega arith)

  apart_at : (k : ℕ) → k < d
      → (entry B d (get_or S k 0) ≡ suc (entry B 0 (get_or S k 0))) ⊎ (entry B 0 (get_or S k 0) ≡ suc (entry B d (get_or S k 0)))
  apart_at k h =
      let up = upper_part k h k (omega arith) in
      let low = below_place k h d h (omega arith) in
      ⊎_elim (λ e. inl (low ∙ e ∙ ap suc up)) (λ e. inr (sym up ∙ e ∙ ap suc (sym low))) (M.next k h).here

  -- The columns of a state matrix are stairs.
  pub stairs : Stairs d B S
  stairs = record {
    rows = M.rows;
    wide = M.wide;
    order = M.order;
    stair = λ k h. record {
      upper = upper_part k h;
      lower = λ i l m. below_place k h i l m ∙ sym (below_place k h d h (omega arith));
    };
    even = odds_none (row B 0) (M.odd 0 (omega arith));
    apart = λ j h.
        let p = place_of M.order j h in
        subst (λ c. (entry B d c ≡ suc (entry B 0 c)) ⊎ (entry B 0 c ≡ suc (entry B d c))) p.2 (apart_at p.0 p.1);
  }

-- ---- and back

-- The odd entry is odd.
odd_below : (e o : ℕ) → e % 2 ≡ 0 → (o ≡ suc e) ⊎ (e ≡ suc o) → o % 2 ≡ 1
odd_below e o h (inl p) = omega arith
odd_below e o h (inr p) = omega arith

module _ {d : ℕ} {B : Matrix} {S : List ℕ} (C : Stairs d B S) where
  -- Where row k goes over to the next, the column at place k goes from its even to its odd entry, and the others stay.
  other_columns : (k : ℕ) → k < d → (i : ℕ) → i ≢ get_or S k 0 → entry B k i ≡ entry B (suc k) i
  other_columns k h i n = go (dec_le (suc i) d)
    where
      at : (m : ℕ) → m < d → get_or S m 0 ≡ i → Dec (k ≤ m) → entry B k i ≡ entry B (suc k) i
      at m l e (yes q) =
          subst (λ c. entry B k c ≡ entry B (suc k) c) e
          ((C.stair m l).upper k q ∙ sym ((C.stair m l).upper (suc k) (go_on (ℕ_discrete m k))))
        where
          go_on : Dec (m ≡ k) → suc k ≤ m
          go_on (yes f) = absurd (n (sym e ∙ ap (λ c. get_or S c 0) f))
          go_on (no f) = omega arith
      at m l e (no q) =
          subst (λ c. entry B k c ≡ entry B (suc k) c) e
          ((C.stair m l).lower k (omega arith) (omega arith) ∙ sym ((C.stair m l).lower (suc k) (omega arith) h))

      go : Dec (i < d) → entry B k i ≡ entry B (suc k) i
      go (yes l) = let p = place_of C.order i l in at p.0 p.1 p.2 (dec_le k p.0)
      go (no l) =
          get_or-eq_default (row B k) 0 (omega (arith, C.wide k (omega arith)))
          ∙ sym (get_or-eq_default (row B (suc k)) 0 (omega (arith, C.wide (suc k) h)))

  odd_rows : (i : ℕ) → i ≤ d → odds (row B i) ≡ i
  odd_rows zero h = none_odds (row B 0) C.even
  odd_rows (suc k) h =
      let j = get_or S k 0 in
      let st = C.stair k h in
      odds_more (row B k) (row B (suc k)) j (C.wide k (omega arith) ∙ sym (C.wide (suc k) h))
      (omega (arith, C.wide k (omega arith), C.order.inside k h))
      (other_columns k h)
      (ap (λ n. n % 2) (st.upper k (omega arith)) ∙ C.even j)
      (ap (λ n. n % 2) (st.lower (suc k) (omega arith) h)
      ∙ odd_below (entry B 0 j) (entry B d j) (C.even j) (C.apart j (C.order.inside k h)))
      ∙ ap suc (odd_rows k (omega arith))

  -- Stairs at every place make a state matrix.
  pub from_stairs : StateMatrix d B S
  from_stairs = record {
    rows = C.rows;
    wide = C.wide;
    odd = odd_rows;
    next = λ k h. record {
      here =
          let st = C.stair k h in
          ⊎_elim
          (λ e. inl (st.lower (suc k) (omega arith) h ∙ e ∙ ap suc (sym (st.upper k (omega arith)))))
          (λ e. inr (st.upper k (omega arith) ∙ e ∙ ap suc (sym (st.lower (suc k) (omega arith) h))))
          (C.apart (get_or S k 0) (C.order.inside k h));
      elsewhere = other_columns k h;
    };
    order = C.order;
  }

-- ---- the step

-- The new even entry of a column with entries e and o: twice its even one where its bit is 0, twice its odd one where it is 1.
abbrev pub next_even : ℕ → ℕ → ℕ → ℕ
next_even zero e o = e + e
next_even (suc b) e o = o + o

module _ {d : ℕ} {B : Matrix} {S : List ℕ} (C : Stairs d B S) (r : List ℕ) (long : length r ≡ d) where
  -- A column that goes from place row_x r (k+1) to place k, whose bit is 1.
  stair_one : (k j e o : ℕ) → k < d → 0 < get_or r k 0 → Stair d B j (row_x r (suc k)) e o → Stair d (step B r) j k (o + o) (e + o)
  stair_one k j e o h b st =
      let here = ones_to_one r k (omega arith) b in
      let most = (ones_to_between r (suc k) (length r) (omega arith)).0 in
      record {
        upper = λ i l.
            let way = (ones_to_between r i k l).0 in
            entry-step B r i j (omega arith)
            ∙ ap₂ (λ a c. a + c)
            (st.lower (row_x r i) (omega (arith, ones_to_all r)) (omega (arith, row_x_inside r i)))
            (st.lower (row_y r i) (omega (arith, ones_to_all r)) (omega (arith, row_y_inside r i (omega arith))));
        lower = λ i l m.
            let way = (ones_to_between r (suc k) i l).0 in
            entry-step B r i j (omega arith)
            ∙ ap₂ (λ a c. a + c)
            (st.upper (row_x r i) (omega arith))
            (st.lower (row_y r i) (omega (arith, ones_to_all r)) (omega (arith, row_y_inside r i (omega arith))));
      }

  -- A column that goes from place row_y r k to place k, whose bit is 0.
  stair_zero : (k j e o : ℕ) → k < d → get_or r k 0 ≡ 0 → Stair d B j (row_y r k) e o → Stair d (step B r) j k (e + e) (e + o)
  stair_zero k j e o h b st =
      let here = ones_to_zero r k (omega arith) b in
      record {
        upper = λ i l.
            let way = (ones_to_between r i k l).1 in
            entry-step B r i j (omega arith)
            ∙ ap₂ (λ a c. a + c)
            (st.upper (row_x r i) (omega arith))
            (st.upper (row_y r i) (omega (arith, ones_to_le r i, ones_to_le r k)));
        lower = λ i l m.
            let way = (ones_to_between r (suc k) i l).1 in
            entry-step B r i j (omega arith)
            ∙ ap₂ (λ a c. a + c)
            (st.upper (row_x r i) (omega arith))
            (st.lower (row_y r i) (omega (arith, ones_to_le r i, ones_to_le r k))
            (omega (arith, row_y_inside r i (omega arith))));
      }

  -- The column at new place k.
  pub stair_step : (k : ℕ) → k < d
      → Stair d (step B r) (get_or (step_order S r) k 0) k
      (next_even (get_or r k 0) (entry B 0 (get_or (step_order S r) k 0)) (entry B d (get_or (step_order S r) k 0)))
      (entry B 0 (get_or (step_order S r) k 0) + entry B d (get_or (step_order S r) k 0))
  stair_step k h = go (get_or r k 0) refl
    where
      New : ℕ → Type 0
      New b =
          Stair d (step B r) (get_or (step_order S r) k 0) k
          (next_even b (entry B 0 (get_or (step_order S r) k 0)) (entry B d (get_or (step_order S r) k 0)))
          (entry B 0 (get_or (step_order S r) k 0) + entry B d (get_or (step_order S r) k 0))

      go : (b : ℕ) → get_or r k 0 ≡ b → New b
      go zero e =
          subst (λ j. Stair d (step B r) j k (entry B 0 j + entry B 0 j) (entry B 0 j + entry B d j))
          (sym (step_order_zero S r k (omega arith) e))
          (stair_zero k (get_or S (row_y r k) 0) (entry B 0 (get_or S (row_y r k) 0)) (entry B d (get_or S (row_y r k) 0)) h e
          (C.stair (row_y r k)
          (omega (arith, ones_to_zero r k (omega arith) e, ones_to_le r k, row_y_inside r (suc k) (omega arith)))))
      go (suc b) e =
          subst (λ j. Stair d (step B r) j k (entry B d j + entry B d j) (entry B 0 j + entry B d j))
          (sym (step_order_one S r k (omega arith) (omega arith)))
          (stair_one k (get_or S (row_x r (suc k)) 0) (entry B 0 (get_or S (row_x r (suc k)) 0)) (entry B d (get_or S (row_x r (suc k)) 0))
          h (omega arith)
          (C.stair (row_x r (suc k))
          (omega (
            arith,
            ones_to_one r k (omega arith) (omega arith),
            ones_le r,
            ones_to_all r,
            (ones_to_between r (suc k) (length r) (omega arith)).0,
          ))))

  pub new_order : Arrangement d (step_order S r)
  new_order = arrangement_step C.order r long

  -- The columns after a step are stairs at their new places.
  pub stairs_step : Stairs d (step B r) (step_order S r)
  stairs_step = record {
    rows = length-step B r ∙ ap suc long;
    wide = wide_step d B r long C.wide;
    order = new_order;
    stair = λ k h.
        let st = stair_step k h in
        record {
          upper = λ i l. st.upper i l ∙ sym (st.upper 0 (omega arith));
          lower = λ i l m. st.lower i l m ∙ sym (st.lower d h (omega arith));
        };
    even = λ j.
        let e = entry-step B r 0 j (omega arith) in
        let s : row_x r 0 ≡ row_y r 0 = omega (arith, ones_to_le r 0) in
        omega (arith, e, ap (λ i. entry B i j) s);
    apart = λ j h. let p = place_of new_order j h in subst Apart p.2 (apart_new p.0 p.1);
  }
    where
      Apart : ℕ → Type 0
      Apart j = (entry (step B r) d j ≡ suc (entry (step B r) 0 j)) ⊎ (entry (step B r) 0 j ≡ suc (entry (step B r) d j))

      next_apart : (b e o : ℕ) → (o ≡ suc e) ⊎ (e ≡ suc o) → (e + o ≡ suc (next_even b e o)) ⊎ (next_even b e o ≡ suc (e + o))
      next_apart zero e o (inl p) = inl (omega arith)
      next_apart zero e o (inr p) = inr (omega arith)
      next_apart (suc b) e o (inl p) = inr (omega arith)
      next_apart (suc b) e o (inr p) = inl (omega arith)

      apart_new : (k : ℕ) → k < d → Apart (get_or (step_order S r) k 0)
      apart_new k h =
          let j = get_or (step_order S r) k 0 in
          let st = stair_step k h in
          let low = st.lower d h (omega arith) in
          let up = st.upper 0 (omega arith) in
          ⊎_elim (λ e. inl (low ∙ e ∙ ap suc (sym up))) (λ e. inr (up ∙ e ∙ ap suc (sym low)))
          (next_apart (get_or r k 0) (entry B 0 j) (entry B d j) (C.apart j (new_order.inside k h)))
