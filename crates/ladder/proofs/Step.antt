-- The step, by place: which rows it adds for new row i, and which old place stands at new place k.
-- With h ones in r and c(i) ones among its first i bits, new row i is row h - c(i) plus row h + (i - c(i)).
-- Assumes nothing.
use Prim.Native.Nat.{ℕ, zero, suc, pred, ◌+◌, ◌-◌, ◌*◌, ◌≤◌, ◌<◌}
use mathlib.Core.Path.{◌≡◌, refl, sym, ap, ap₂, ◌∙◌}
use mathlib.Core.List.{List, [], ◌∷◌}
use native.Mathlib.Nat.{le_of_suc-le-suc, not-suc-le-zero, two-mul}
use native.Mathlib.Numerals.{sub-one}
use native.Mathlib.Omega.{arith}
use lib.ListN.{length, get_or, take, length-map}
use lib.Seq.{take-length}
use Rattle.ladder.specs.Lists.{ones}
use Rattle.ladder.specs.Matrix.{Row, Matrix, row, entry, add_rows, double_row, Pair, pairs_from, additions, step, order_from, step_order}
use Rattle.ladder.proofs.Lists.{get_or-map, ones_le}

-- ---- ones among the first bits

abbrev pub ones_to : List ℕ → ℕ → ℕ
ones_to r i = ones (take i r)

pub ones_to_le : (r : List ℕ) (i : ℕ) → ones_to r i ≤ i
unfolding ones
ones_to_le r zero = omega arith
ones_to_le [] (suc i) = omega arith
ones_to_le (zero ∷ r) (suc i) = omega (arith, ones_to_le r i)
ones_to_le (suc b ∷ r) (suc i) = omega (arith, ones_to_le r i)

-- From place i to a later place k neither the ones nor the zeros fall.
pub ones_to_between : (r : List ℕ) (i k : ℕ) → i ≤ k → (ones_to r i ≤ ones_to r k) × (ones_to r k + i ≤ ones_to r i + k)
unfolding ones
ones_to_between r zero k h = (omega arith, omega (arith, ones_to_le r k))
ones_to_between r (suc i) zero h = absurd (not-suc-le-zero h)
ones_to_between [] (suc i) (suc k) h = (omega arith, omega arith)
ones_to_between (zero ∷ r) (suc i) (suc k) h =
    let b = ones_to_between r i k (le_of_suc-le-suc h) in (omega (arith, b.0), omega (arith, b.1))
ones_to_between (suc c ∷ r) (suc i) (suc k) h =
    let b = ones_to_between r i k (le_of_suc-le-suc h) in (omega (arith, b.0), omega (arith, b.1))

-- All bits passed, all ones are passed.
pub ones_to_all : (r : List ℕ) → ones_to r (length r) ≡ ones r
ones_to_all r = ap ones (take-length r)

pub ones_to_one : (r : List ℕ) (k : ℕ) → k < length r → 0 < get_or r k 0 → ones_to r (suc k) ≡ suc (ones_to r k)
unfolding ones
ones_to_one [] k h b = absurd (not-suc-le-zero h)
ones_to_one (zero ∷ r) zero h b = absurd (not-suc-le-zero b)
ones_to_one (suc c ∷ r) zero h b = refl
ones_to_one (zero ∷ r) (suc k) h b = ones_to_one r k (le_of_suc-le-suc h) b
ones_to_one (suc c ∷ r) (suc k) h b = ap suc (ones_to_one r k (le_of_suc-le-suc h) b)

pub ones_to_zero : (r : List ℕ) (k : ℕ) → k < length r → get_or r k 0 ≡ 0 → ones_to r (suc k) ≡ ones_to r k
unfolding ones
ones_to_zero [] k h b = absurd (not-suc-le-zero h)
ones_to_zero (zero ∷ r) zero h b = refl
ones_to_zero (suc c ∷ r) zero h b = absurd (let e : suc c ≡ 0 = b in omega arith)
ones_to_zero (zero ∷ r) (suc k) h b = ones_to_zero r k (le_of_suc-le-suc h) b
ones_to_zero (suc c ∷ r) (suc k) h b = ap suc (ones_to_zero r k (le_of_suc-le-suc h) b)

-- The rows added for new row i.
abbrev pub row_x : List ℕ → ℕ → ℕ
row_x r i = ones r - ones_to r i

abbrev pub row_y : List ℕ → ℕ → ℕ
row_y r i = ones r + (i - ones_to r i)

-- Both are rows of the matrix.
pub row_x_inside : (r : List ℕ) (i : ℕ) → row_x r i ≤ length r
row_x_inside r i = omega (arith, ones_le r)

pub row_y_inside : (r : List ℕ) (i : ℕ) → i ≤ length r → row_y r i ≤ length r
row_y_inside r i h =
    omega (arith, ones_le r, ones_to_all r, (ones_to_between r i (length r) h).0, (ones_to_between r i (length r) h).1, ones_to_le r i)

-- ---- the pairs

pub length-pairs_from : (x y : ℕ) (r : List ℕ) → length (pairs_from x y r) ≡ length r
unfolding pairs_from
length-pairs_from x y [] = refl
length-pairs_from x y (zero ∷ r) = ap suc (length-pairs_from x (suc y) r)
length-pairs_from x y (suc b ∷ r) = ap suc (length-pairs_from (pred x) y r)

pub length-additions : (r : List ℕ) → length (additions r) ≡ length r
unfolding additions
length-additions r = length-pairs_from (ones r) (ones r) r

pub pairs_from_x : (x y : ℕ) (r : List ℕ) (i : ℕ) (z : Pair) → i < length r → (get_or (pairs_from x y r) i z).x ≡ x - ones_to r (suc i)
unfolding pairs_from ones
pairs_from_x x y [] i z h = absurd (not-suc-le-zero h)
pairs_from_x x y (zero ∷ r) zero z h = omega arith
pairs_from_x x y (suc b ∷ r) zero z h = sym (sub-one x)
pairs_from_x x y (zero ∷ r) (suc i) z h = pairs_from_x x (suc y) r i z (le_of_suc-le-suc h)
pairs_from_x x y (suc b ∷ r) (suc i) z h = omega (arith, pairs_from_x (pred x) y r i z (le_of_suc-le-suc h))

pub pairs_from_y : (x y : ℕ) (r : List ℕ) (i : ℕ) (z : Pair) → i < length r → (get_or (pairs_from x y r) i z).y ≡ y + (suc i - ones_to r (suc i))
unfolding pairs_from ones
pairs_from_y x y [] i z h = absurd (not-suc-le-zero h)
pairs_from_y x y (zero ∷ r) zero z h = omega arith
pairs_from_y x y (suc b ∷ r) zero z h = omega arith
pairs_from_y x y (zero ∷ r) (suc i) z h =
    omega (arith, pairs_from_y x (suc y) r i z (le_of_suc-le-suc h), ones_to_le r (suc i))
pairs_from_y x y (suc b ∷ r) (suc i) z h =
    omega (arith, pairs_from_y (pred x) y r i z (le_of_suc-le-suc h), ones_to_le r (suc i))

-- Addition i makes new row i+1.
pub additions_x : (r : List ℕ) (i : ℕ) (z : Pair) → i < length r → (get_or (additions r) i z).x ≡ row_x r (suc i)
unfolding additions
additions_x r i z h = pairs_from_x (ones r) (ones r) r i z h

pub additions_y : (r : List ℕ) (i : ℕ) (z : Pair) → i < length r → (get_or (additions r) i z).y ≡ row_y r (suc i)
unfolding additions
additions_y r i z h = pairs_from_y (ones r) (ones r) r i z h

-- ---- sums of rows

pub get_or-add_rows : (u v : Row) (j : ℕ) → get_or (add_rows u v) j 0 ≡ get_or u j 0 + get_or v j 0
unfolding add_rows
get_or-add_rows [] v j = omega arith
get_or-add_rows (a ∷ u) [] j = omega arith
get_or-add_rows (a ∷ u) (b ∷ v) zero = refl
get_or-add_rows (a ∷ u) (b ∷ v) (suc j) = get_or-add_rows u v j

pub length-add_rows : (d : ℕ) (u v : Row) → length u ≡ d → length v ≡ d → length (add_rows u v) ≡ d
unfolding add_rows
length-add_rows d [] v h k = k
length-add_rows d (a ∷ u) [] h k = h
length-add_rows zero (a ∷ u) (b ∷ v) h k = absurd (omega arith)
length-add_rows (suc d) (a ∷ u) (b ∷ v) h k = ap suc (length-add_rows d u v (omega arith) (omega arith))

pub get_or-double_row : (u : Row) (j : ℕ) → get_or (double_row u) j 0 ≡ get_or u j 0 + get_or u j 0
unfolding double_row
get_or-double_row [] j = omega arith
get_or-double_row (a ∷ u) zero = two-mul a
get_or-double_row (a ∷ u) (suc j) = get_or-double_row u j

pub length-double_row : (u : Row) → length (double_row u) ≡ length u
unfolding double_row
length-double_row u = length-map u (λ a. 2 * a)

-- ---- the rows of a step

pub no_pair : Pair
no_pair = record { x = 0; y = 0 }

pub length-step : (B : Matrix) (r : List ℕ) → length (step B r) ≡ suc (length r)
unfolding step
length-step B r = ap suc (length-map (additions r) (λ p. add_rows (row B p.x) (row B p.y)) ∙ length-additions r)

pub row-step-suc : (B : Matrix) (r : List ℕ) (i : ℕ) → i < length r
    → row (step B r) (suc i) ≡ add_rows (row B (row_x r (suc i))) (row B (row_y r (suc i)))
unfolding step
row-step-suc B r i h =
    get_or-map (λ p. add_rows (row B p.x) (row B p.y)) (additions r) i no_pair [] (omega (arith, length-additions r))
    ∙ ap₂ (λ a b. add_rows (row B a) (row B b)) (additions_x r i no_pair h) (additions_y r i no_pair h)

pub entry-step : (B : Matrix) (r : List ℕ) (i j : ℕ) → i ≤ length r
    → entry (step B r) i j ≡ entry B (row_x r i) j + entry B (row_y r i) j
unfolding step ones
entry-step B r zero j h =
    get_or-double_row (row B (ones r)) j
    ∙ ap₂ (λ a b. entry B a j + entry B b j) (omega arith) (omega arith)
entry-step B r (suc i) j h =
    ap (λ u. get_or u j 0) (row-step-suc B r i h) ∙ get_or-add_rows (row B (row_x r (suc i))) (row B (row_y r (suc i))) j

-- Where every row of the matrix has d entries, so has every new row.
pub wide_step : (d : ℕ) (B : Matrix) (r : List ℕ) → length r ≡ d → ((i : ℕ) → i ≤ d → length (row B i) ≡ d)
    → (i : ℕ) → i ≤ d → length (row (step B r) i) ≡ d
unfolding step
wide_step d B r e w zero h = length-double_row (row B (ones r)) ∙ w (ones r) (omega (arith, ones_le r))
wide_step d B r e w (suc i) h =
    ap length (row-step-suc B r i (omega arith))
    ∙ length-add_rows d (row B (row_x r (suc i))) (row B (row_y r (suc i)))
    (w (row_x r (suc i)) (omega (arith, row_x_inside r (suc i))))
    (w (row_y r (suc i)) (omega (arith, row_y_inside r (suc i) (omega arith))))

-- ---- the new order, by place

pub length-order_from : (S : List ℕ) (x y : ℕ) (r : List ℕ) → length (order_from S x y r) ≡ length r
unfolding order_from
length-order_from S x y [] = refl
length-order_from S x y (zero ∷ r) = ap suc (length-order_from S x (suc y) r)
length-order_from S x y (suc b ∷ r) = ap suc (length-order_from S (pred x) y r)

pub length-step_order : (S r : List ℕ) → length (step_order S r) ≡ length r
unfolding step_order
length-step_order S r = length-order_from S (ones r) (ones r) r

order_from_one : (S : List ℕ) (x y : ℕ) (r : List ℕ) (k : ℕ) → k < length r → 0 < get_or r k 0
    → get_or (order_from S x y r) k 0 ≡ get_or S (x - ones_to r (suc k)) 0
unfolding order_from ones
order_from_one S x y [] k h b = absurd (not-suc-le-zero h)
order_from_one S x y (zero ∷ r) zero h b = absurd (not-suc-le-zero b)
order_from_one S x y (suc c ∷ r) zero h b = ap (λ i. get_or S i 0) (omega arith)
order_from_one S x y (zero ∷ r) (suc k) h b = order_from_one S x (suc y) r k (le_of_suc-le-suc h) b
order_from_one S x y (suc c ∷ r) (suc k) h b =
    order_from_one S (pred x) y r k (le_of_suc-le-suc h) b ∙ ap (λ i. get_or S i 0) (omega arith)

order_from_zero : (S : List ℕ) (x y : ℕ) (r : List ℕ) (k : ℕ) → k < length r → get_or r k 0 ≡ 0
    → get_or (order_from S x y r) k 0 ≡ get_or S (y + (k - ones_to r k)) 0
unfolding order_from ones
order_from_zero S x y [] k h b = absurd (not-suc-le-zero h)
order_from_zero S x y (zero ∷ r) zero h b = ap (λ i. get_or S i 0) (omega arith)
order_from_zero S x y (suc c ∷ r) zero h b = absurd (let e : suc c ≡ 0 = b in omega arith)
order_from_zero S x y (zero ∷ r) (suc k) h b =
    order_from_zero S x (suc y) r k (le_of_suc-le-suc h) b ∙ ap (λ i. get_or S i 0) (omega (arith, ones_to_le r k))
order_from_zero S x y (suc c ∷ r) (suc k) h b =
    order_from_zero S (pred x) y r k (le_of_suc-le-suc h) b ∙ ap (λ i. get_or S i 0) (omega arith)

-- A place with bit 1 gets the column from place x, x having fallen; a place with bit 0 that from place y, before it grows.
pub step_order_one : (S r : List ℕ) (k : ℕ) → k < length r → 0 < get_or r k 0 → get_or (step_order S r) k 0 ≡ get_or S (row_x r (suc k)) 0
unfolding step_order
step_order_one S r k h b = order_from_one S (ones r) (ones r) r k h b

pub step_order_zero : (S r : List ℕ) (k : ℕ) → k < length r → get_or r k 0 ≡ 0 → get_or (step_order S r) k 0 ≡ get_or S (row_y r k) 0
unfolding step_order
step_order_zero S r k h b = order_from_zero S (ones r) (ones r) r k h b
