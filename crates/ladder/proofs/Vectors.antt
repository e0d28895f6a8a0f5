-- Two rows of a state matrix differ by the signs of the columns that stand between them, so by a vector of -1, 0 and 1 that is not
-- all zero; and from one operation of a step to the next one column's sign is filled in.
-- Assumes nothing.
use Prim.Native.Nat.{ℕ, zero, suc, ◌-◌, ◌≤◌, ◌<◌}
use mathlib.Core.Path.{◌≡◌, refl, sym, ap, ap₂, subst, ◌∙◌}
use mathlib.Core.Logic.{◌≢◌, ◌⊎◌, inl, inr, ⊎_elim}
use mathlib.Core.Bool.{Bool, true, false, not, cond}
use mathlib.Core.List.{List}
use native.Mathlib.Decide.{ℕ_discrete, dec_le}
use native.Mathlib.Omega.{arith}
use lib.Dec.{T, ltb, ltb→lt, nltb→le}
use lib.IntN.{ℤ, pos, negsuc, sub_ℕ}
use lib.ListN.{length, get_or, set, length-set, get_or-eq_default}
use lib.Seq.{ext_get_or, get_or-set_same, get_or-set_other}
use Rattle.ladder.specs.Lists.{ones}
use Rattle.ladder.specs.Matrix.{Matrix, entry, StateMatrix, sign_of, signs_of, Pair, additions, step_order, IsUnit, IsSmall}
use Rattle.ladder.specs.Trace.{difference, vector_of, operations}
use Rattle.ladder.proofs.Lists.{length-tabulate, get_or-tabulate}
use Rattle.ladder.proofs.Step.{ones_to_le, ones_to_between, ones_to_all, ones_to_one, ones_to_zero, row_x, row_y, row_y_inside, additions_x, additions_y, step_order_one, step_order_zero, no_pair}
use Rattle.ladder.proofs.Order.{place_of, place_once}
use Rattle.ladder.proofs.Stairs.{stairs}
use Rattle.ladder.proofs.Signs.{sign_up, sign_down, get_or-signs_of}

-- ---- differences of numbers

pub sub_le : (a b : ℕ) → b ≤ a → sub_ℕ a b ≡ pos (a - b)
sub_le a b h = go (ltb a b) refl
  where
    go : (t : Bool) → ltb a b ≡ t → sub_ℕ a b ≡ pos (a - b)
    go true e = absurd (let l = ltb→lt a b (subst T (sym e) tt) in omega arith)
    go false e = ap (λ t. cond t (negsuc (b - suc a)) (pos (a - b))) e

pub sub_lt : (a b : ℕ) → a < b → sub_ℕ a b ≡ negsuc (b - suc a)
sub_lt a b h = go (ltb a b) refl
  where
    go : (t : Bool) → ltb a b ≡ t → sub_ℕ a b ≡ negsuc (b - suc a)
    go true e = ap (λ t. cond t (negsuc (b - suc a)) (pos (a - b))) e
    go false e = absurd (let l = nltb→le a b (subst (λ t. T (not t)) (sym e) tt) in omega arith)

sub_same : (a b : ℕ) → a ≡ b → sub_ℕ a b ≡ pos 0
sub_same a b e = sub_le a b (omega arith) ∙ ap pos (omega arith)

-- The difference of a column's odd and even entry is its sign.
sub_sign : (e o : ℕ) → (o ≡ suc e) ⊎ (e ≡ suc o) → sub_ℕ o e ≡ sign_of e o
sub_sign e o (inl p) = sub_le o e (omega arith) ∙ ap pos (omega arith) ∙ sym (sign_up e o p)
sub_sign e o (inr p) = sub_lt o e (omega arith) ∙ ap negsuc (omega arith) ∙ sym (sign_down e o p)

-- ---- the vector of any two rows

pub length_vector : (d : ℕ) (B : Matrix) (p : Pair) → length (vector_of d B p) ≡ d
unfolding vector_of difference
length_vector d B p = length-tabulate d (λ j. sub_ℕ (entry B p.y j) (entry B p.x j))

vector_at : (d : ℕ) (B : Matrix) (p : Pair) (j : ℕ) → j < d
    → get_or (vector_of d B p) j (pos 0) ≡ sub_ℕ (entry B p.y j) (entry B p.x j)
unfolding vector_of difference
vector_at d B p j h = get_or-tabulate d (λ i. sub_ℕ (entry B p.y i) (entry B p.x i)) j (pos 0) h

-- A doubling's vector is all zero, of any matrix.
pub vector_doubling : (d : ℕ) (B : Matrix) (i j : ℕ) → j < d → get_or (vector_of d B (record { x = i; y = i })) j (pos 0) ≡ pos 0
vector_doubling d B i j h = vector_at d B (record { x = i; y = i }) j h ∙ sub_same (entry B i j) (entry B i j) refl

-- ---- the vector of two rows of a state matrix

module _ {d : ℕ} {B : Matrix} {S : List ℕ} (M : StateMatrix d B S) (p : Pair) (up : p.x ≤ p.y) (inside : p.y ≤ d) where
  -- A column whose place lies between the two rows has its sign in the vector ..
  pub vector_between : (k : ℕ) → p.x ≤ k → k < p.y
      → get_or (vector_of d B p) (get_or S k 0) (pos 0) ≡ get_or (signs_of d B) (get_or S k 0) (pos 0)
  vector_between k above below =
      let h : k < d = omega arith in
      let j = get_or S k 0 in
      let column = M.order.inside k h in
      vector_at d B p j column
      ∙ ap₂ sub_ℕ (((stairs M).stair k h).lower p.y below inside) (((stairs M).stair k h).upper p.x above)
      ∙ sub_sign (entry B 0 j) (entry B d j) ((stairs M).apart j column)
      ∙ sym (get_or-signs_of d B j column)

  -- .. and one whose place lies above both or below both has 0.
  pub vector_above : (k : ℕ) → k < p.x → get_or (vector_of d B p) (get_or S k 0) (pos 0) ≡ pos 0
  vector_above k h =
      let stair = (stairs M).stair k (omega arith) in
      vector_at d B p (get_or S k 0) (M.order.inside k (omega arith))
      ∙ sub_same (entry B p.y (get_or S k 0)) (entry B p.x (get_or S k 0))
      (stair.lower p.y (omega arith) inside ∙ sym (stair.lower p.x h (omega arith)))

  pub vector_below : (k : ℕ) → p.y ≤ k → k < d → get_or (vector_of d B p) (get_or S k 0) (pos 0) ≡ pos 0
  vector_below k h b =
      vector_at d B p (get_or S k 0) (M.order.inside k b)
      ∙ sub_same (entry B p.y (get_or S k 0)) (entry B p.x (get_or S k 0))
      (((stairs M).stair k b).upper p.y h ∙ sym (((stairs M).stair k b).upper p.x (omega arith)))

  between_unit : (k : ℕ) → p.x ≤ k → k < p.y → IsUnit (get_or (vector_of d B p) (get_or S k 0) (pos 0))
  between_unit k above below =
      let j = get_or S k 0 in
      let column = M.order.inside k (omega arith) in
      subst IsUnit (sym (vector_between k above below ∙ get_or-signs_of d B j column))
      (⊎_elim
      (λ q. inl (sign_up (entry B 0 j) (entry B d j) q))
      (λ q. inr (sign_down (entry B 0 j) (entry B d j) q))
      ((stairs M).apart j column))

  -- The vector's coefficients are -1, 0 and 1 ..
  pub vector_small : (j : ℕ) → IsSmall (get_or (vector_of d B p) j (pos 0))
  vector_small j = go (dec_le (suc j) d)
    where
      at : (k : ℕ) → k < d → Dec (p.x ≤ k) → Dec (suc k ≤ p.y) → IsSmall (get_or (vector_of d B p) (get_or S k 0) (pos 0))
      at k h (yes a) (yes b) = inr (between_unit k a b)
      at k h (yes a) (no b) = inl (vector_below k (omega arith) h)
      at k h (no a) b = inl (vector_above k (omega arith))

      go : Dec (j < d) → IsSmall (get_or (vector_of d B p) j (pos 0))
      go (yes h) =
          let q = place_of M.order j h in
          subst (λ c. IsSmall (get_or (vector_of d B p) c (pos 0))) q.2 (at q.0 q.1 (dec_le p.x q.0) (dec_le (suc q.0) p.y))
      go (no h) = inl (get_or-eq_default (vector_of d B p) (pos 0) (omega (arith, length_vector d B p)))

  -- .. and where the two rows are two, not all of them are 0.
  pub vector_not_zero : p.x < p.y → (j : ℕ) × (j < d) × IsUnit (get_or (vector_of d B p) j (pos 0))
  vector_not_zero h = (get_or S p.x 0, M.order.inside p.x (omega arith), between_unit p.x (omega arith) h)

-- ---- the rows of a step's operations

-- Operation i of a step makes new row i.
abbrev pub operation : List ℕ → ℕ → Pair
operation r i = get_or (operations r) i no_pair

operation_x : (r : List ℕ) (i : ℕ) → i ≤ length r → (operation r i).x ≡ row_x r i
unfolding operations ones
operation_x r zero h = omega arith
operation_x r (suc i) h = additions_x r i no_pair h

operation_y : (r : List ℕ) (i : ℕ) → i ≤ length r → (operation r i).y ≡ row_y r i
unfolding operations ones
operation_y r zero h = omega arith
operation_y r (suc i) h = additions_y r i no_pair h

-- An addition adds two rows of the matrix, the first above the second.
pub addition_apart : (r : List ℕ) (i : ℕ) → i < length r → (get_or (additions r) i no_pair).x < (get_or (additions r) i no_pair).y
addition_apart r i h =
    omega (
      arith,
      additions_x r i no_pair h,
      additions_y r i no_pair h,
      ones_to_le r (suc i),
      ones_to_all r,
      (ones_to_between r (suc i) (length r) h).0,
    )

pub addition_inside : (r : List ℕ) (i : ℕ) → i < length r → (get_or (additions r) i no_pair).y ≤ length r
addition_inside r i h = omega (arith, additions_y r i no_pair h, row_y_inside r (suc i) h)

-- ---- from operation to operation

module _ {d : ℕ} {B : Matrix} {S : List ℕ} (M : StateMatrix d B S) where
  -- Where the rows of q have those of p between them and one place more, k, the column there has its sign filled in.
  vector_wider : (p q : Pair) → p.x ≤ p.y → q.y ≤ d → q.x ≤ p.x → p.y ≤ q.y → (k : ℕ) → q.x ≤ k → k < q.y
      → ((m : ℕ) → m ≢ k → q.x ≤ m → m < q.y → (p.x ≤ m) × (m < p.y))
      → vector_of d B q ≡ set (vector_of d B p) (get_or S k 0) (get_or (signs_of d B) (get_or S k 0) (pos 0))
  vector_wider p q up inside left right k above below others =
      ext_get_or (pos 0) (vector_of d B q) (set (vector_of d B p) j s)
      (length_vector d B q ∙ sym (length-set (vector_of d B p) j s ∙ length_vector d B p))
      (λ c l.
      let m = place_of M.order c (omega (arith, length_vector d B q)) in
      subst (λ (c : ℕ). Agree c) m.2 (at m.0 m.1 (ℕ_discrete m.0 k) (dec_le q.x m.0) (dec_le (suc m.0) q.y)))
    where
      j : ℕ
      j = get_or S k 0

      s : ℤ
      s = get_or (signs_of d B) j (pos 0)

      Agree : ℕ → Type 0
      Agree c = get_or (vector_of d B q) c (pos 0) ≡ get_or (set (vector_of d B p) j s) c (pos 0)

      kept : (m : ℕ) → m < d → m ≢ k → get_or (vector_of d B p) (get_or S m 0) (pos 0) ≡ get_or (set (vector_of d B p) j s) (get_or S m 0) (pos 0)
      kept m b n =
          sym (get_or-set_other (vector_of d B p) j (get_or S m 0) s (pos 0) (λ e. n (place_once M.order m k b (omega arith) e)))

      at : (m : ℕ) → m < d → Dec (m ≡ k) → Dec (q.x ≤ m) → Dec (suc m ≤ q.y) → Agree (get_or S m 0)
      at m b (yes e) x y =
          subst (λ n. Agree (get_or S n 0)) (sym e)
          (vector_between M q (omega arith) inside k above below
          ∙ sym (get_or-set_same (vector_of d B p) j s (pos 0) (omega (arith, length_vector d B p, M.order.inside k (omega arith)))))
      at m b (no n) (yes x) (yes y) =
          vector_between M q (omega arith) inside m x y
          ∙ sym (vector_between M p up (omega arith) m (others m n x y).0 (others m n x y).1)
          ∙ kept m b n
      at m b (no n) (yes x) (no y) =
          vector_below M q (omega arith) inside m (omega arith) b
          ∙ sym (vector_below M p up (omega arith) m (omega arith) b)
          ∙ kept m b n
      at m b (no n) (no x) y =
          vector_above M q (omega arith) inside m (omega arith)
          ∙ sym (vector_above M p up (omega arith) m (omega arith))
          ∙ kept m b n

  -- From one operation of a step to the next the rows part by one place, that of the column at place i of the new order: so the
  -- vector of operation i+1 is that of operation i with this column's sign filled in.
  pub vector_filled : (r : List ℕ) → length r ≡ d → (i : ℕ) → i < d
      → vector_of d B (operation r (suc i))
      ≡ set (vector_of d B (operation r i)) (get_or (step_order S r) i 0) (get_or (signs_of d B) (get_or (step_order S r) i 0) (pos 0))
  vector_filled r long i h = go (ℕ_discrete (get_or r i 0) 0)
    where
      b : i < length r
      b = omega arith

      in_order : (operation r i).x ≤ (operation r i).y
      in_order = omega (arith, operation_x r i (omega arith), operation_y r i (omega arith))

      inside : (operation r (suc i)).y ≤ d
      inside = omega (arith, operation_y r (suc i) b, row_y_inside r (suc i) b)

      Filled : ℕ → Type 0
      Filled j = vector_of d B (operation r (suc i)) ≡ set (vector_of d B (operation r i)) j (get_or (signs_of d B) j (pos 0))

      go : Dec (get_or r i 0 ≡ 0) → Filled (get_or (step_order S r) i 0)
      go (yes e) =
          let ones-stay = ones_to_zero r i b e in
          let x : (operation r (suc i)).x ≡ (operation r i).x = omega (arith, operation_x r i (omega arith), operation_x r (suc i) b) in
          let y : (operation r (suc i)).y ≡ suc (operation r i).y =
          omega (arith, operation_y r i (omega arith), operation_y r (suc i) b, ones_to_le r i) in
          subst (λ (j : ℕ). Filled j) (ap (λ k. get_or S k 0) (operation_y r i (omega arith)) ∙ sym (step_order_zero S r i b e))
          (vector_wider (operation r i) (operation r (suc i)) in_order inside (omega arith) (omega arith) (operation r i).y
          (omega (arith, in_order)) (omega arith) (λ m n p q. (omega arith, omega arith)))
      go (no e) =
          let ones-grow = ones_to_one r i b (omega arith) in
          let most = (ones_to_between r (suc i) (length r) b).0 in
          let x : (operation r i).x ≡ suc (operation r (suc i)).x =
          omega (arith, operation_x r i (omega arith), operation_x r (suc i) b, ones_to_all r) in
          let y : (operation r (suc i)).y ≡ (operation r i).y = omega (arith, operation_y r i (omega arith), operation_y r (suc i) b) in
          subst (λ (j : ℕ). Filled j) (ap (λ k. get_or S k 0) (operation_x r (suc i) b) ∙ sym (step_order_one S r i b (omega arith)))
          (vector_wider (operation r i) (operation r (suc i)) in_order inside (omega arith) (omega arith) (operation r (suc i)).x
          (omega arith) (omega (arith, in_order)) (λ m n p q. (omega arith, omega arith)))
