-- "State matrix and step": what a state matrix, its order and its signs are, the start matrix, and the single step of each.
-- Rows, columns and places count from 0: the rules' row i+1 is row i here.
-- Assumes nothing.
use Rattle.std.specs.Prelude.{ℕ, zero, suc, pred, ◌+◌, ◌*◌, ◌≤◌, ◌<◌, ◌≡◌, ◌≢◌, ◌⊎◌, cond, List, [], ◌∷◌, map, eqb, ℤ, pos, negsuc, neg_ℤ, length, get_or, set, replicate}
use Rattle.ladder.specs.Lists.{tabulate, count, ones, odds}

-- ---- rows and matrices

-- A row is its entries ..
abbrev pub Row : Type 0
Row = List ℕ

-- .. and a matrix its rows.
abbrev pub Matrix : Type 0
Matrix = List Row

-- Row i (the rules' row i+1).
abbrev pub row : Matrix → ℕ → Row
row B i = get_or B i []

-- The entry of row i in column j.
abbrev pub entry : Matrix → ℕ → ℕ → ℕ
entry B i j = get_or (row B i) j 0

-- The sum of two rows, entry by entry; a row that is shorter counts as filled up with 0.
unfoldable pub add_rows : Row → Row → Row
add_rows [] v = v
add_rows (a ∷ u) [] = a ∷ u
add_rows (a ∷ u) (b ∷ v) = (a + b) ∷ add_rows u v

-- Twice a row.
unfoldable pub double_row : Row → Row
double_row u = map (λ a. 2 * a) u

-- ---- what a state matrix is

-- An arrangement of the columns: d places, a column in each, and each column once.
pub record Arrangement (d : ℕ) (S : List ℕ) : Type 0 where
  pub long : length S ≡ d
  pub inside : (k : ℕ) → k < d → get_or S k 0 < d
  pub once : (j : ℕ) → j < d → count j S ≡ 1

-- An order that counts its columns from 1 is an arrangement of 1..d.
pub record OrderOk (d : ℕ) (S : List ℕ) : Type 0 where
  pub columns : Arrangement d (map pred S)
  pub counted : S ≡ map suc (map pred S)

-- Row v minus row u is +1 or -1 in column j and 0 elsewhere.
pub record DifferIn (j : ℕ) (u v : Row) : Type 0 where
  pub here : (get_or v j 0 ≡ suc (get_or u j 0)) ⊎ (get_or u j 0 ≡ suc (get_or v j 0))
  pub elsewhere : (i : ℕ) → i ≢ j → get_or u i 0 ≡ get_or v i 0

-- A state matrix and its order: d+1 rows of d numbers; row i (the rules' row i+1) has i odd entries; from row k to the next
-- only the column at place k changes, by one; each column occurs once.
pub record StateMatrix (d : ℕ) (B : Matrix) (S : List ℕ) : Type 0 where
  pub rows : length B ≡ suc d
  pub wide : (i : ℕ) → i ≤ d → length (row B i) ≡ d
  pub odd : (i : ℕ) → i ≤ d → odds (row B i) ≡ i
  pub next : (k : ℕ) → k < d → DifferIn (get_or S k 0) (row B k) (row B (suc k))
  pub order : Arrangement d S

-- The sign of a column with these even and odd entries: +1 where the odd one is one above the even one, else -1.
unfoldable pub sign_of : ℕ → ℕ → ℤ
sign_of even odd = cond (eqb odd (suc even)) (pos 1) (negsuc 0)

-- 1 or -1 ..
abbrev pub IsUnit : ℤ → Type 0
IsUnit s = (s ≡ pos 1) ⊎ (s ≡ negsuc 0)

-- .. or 0 besides ..
abbrev pub IsSmall : ℤ → Type 0
IsSmall s = (s ≡ pos 0) ⊎ IsUnit s

-- .. and each of the first d signs of a list is 1 or -1.
abbrev pub Units : ℕ → List ℤ → Type 0
Units d signs = (j : ℕ) → j < d → IsUnit (get_or signs j (pos 0))

-- The signs of a state matrix, by column number. Row 0 has every column's even entry, row d every column's odd one.
unfoldable pub signs_of : ℕ → Matrix → List ℤ
signs_of d B = tabulate d (λ j. sign_of (entry B 0 j) (entry B d j))

-- ---- the start matrix

-- A row with 1 added in column j.
unfoldable pub bump : Row → ℕ → Row
bump u j = set u j (suc (get_or u j 0))

-- Row u, and below it a row for each place of the order: the row above with 1 added in the column that stands there.
unfoldable pub rows_from : Row → List ℕ → Matrix
rows_from u [] = u ∷ []
rows_from u (j ∷ S) = u ∷ rows_from (bump u j) S

-- The start matrix of a start order: its first row is all 0. Order 1 2 (here 0 1) gives (0,0) (1,0) (1,1).
unfoldable pub start_matrix : ℕ → List ℕ → Matrix
start_matrix d S = rows_from (replicate d 0) S

-- All signs start at +1.
unfoldable pub start_signs : ℕ → List ℤ
start_signs d = replicate d (pos 1)

-- ---- the step

-- The two rows that an operation adds.
pub record Pair : Type 0 where
  pub x : ℕ
  pub y : ℕ

-- The rows added for the bits r, x and y standing where they are: where a bit is 0, y grows; where it is 1, x falls.
unfoldable pub pairs_from : ℕ → ℕ → List ℕ → List Pair
pairs_from x y [] = []
pairs_from x y (zero ∷ r) = record { x = x; y = suc y } ∷ pairs_from x (suc y) r
pairs_from x y (suc b ∷ r) = record { x = pred x; y = y } ∷ pairs_from (pred x) y r

-- The additions of a step: x and y start at row h (the rules' row h+1), h being the number of ones.
unfoldable pub additions : List ℕ → List Pair
additions r = pairs_from (ones r) (ones r) r

-- New row 0 is the double of row h; each addition gives the next row. Figure 1 of the source: (2,4,2,2) (2,4,2,3) (3,4,2,3)
-- (3,3,2,3) (3,3,3,3) with bits 1001 give (6,8,4,6) (5,8,4,6) (5,7,4,6) (5,7,5,6) (5,7,5,5).
unfoldable pub step : Matrix → List ℕ → Matrix
step B r = double_row (row B (ones r)) ∷ map (λ p. add_rows (row B p.x) (row B p.y)) (additions r)

-- The new order's place k: the old order's place x after falling (here pred x) where the bit is 1, and the old order's place
-- y-1 after growing (here y before growing) where it is 0.
unfoldable pub order_from : List ℕ → ℕ → ℕ → List ℕ → List ℕ
order_from S x y [] = []
order_from S x y (zero ∷ r) = get_or S y 0 ∷ order_from S x (suc y) r
order_from S x y (suc b ∷ r) = get_or S (pred x) 0 ∷ order_from S (pred x) y r

-- The new order: x and y start at h, the number of ones.
unfoldable pub step_order : List ℕ → List ℕ → List ℕ
step_order S r = order_from S (ones r) (ones r) r

-- The signs with those of the columns turned that stand at a place of the (new) order where the bit is 1.
unfoldable pub turn : List ℤ → List ℕ → List ℕ → List ℤ
turn signs [] r = signs
turn signs (j ∷ S) [] = signs
turn signs (j ∷ S) (zero ∷ r) = turn signs S r
turn signs (j ∷ S) (suc b ∷ r) = turn (set signs j (neg_ℤ (get_or signs j (pos 0)))) S r

-- A step turns the signs by its new order.
unfoldable pub step_signs : List ℤ → List ℕ → List ℕ → List ℤ
step_signs signs S r = turn signs (step_order S r) r

-- ---- many steps: r gives each step's bits by its number (the rules' step s+1 has bits r s)

-- The matrix after n steps from a start order. It is the matrix before step n (the rules' step n+1).
unfoldable pub matrix_after : ℕ → List ℕ → (ℕ → List ℕ) → ℕ → Matrix
matrix_after d S r zero = start_matrix d S
matrix_after d S r (suc n) = step (matrix_after d S r n) (r n)

-- The order after n steps.
unfoldable pub order_after : List ℕ → (ℕ → List ℕ) → ℕ → List ℕ
order_after S r zero = S
order_after S r (suc n) = step_order (order_after S r n) (r n)

-- The signs after n steps.
unfoldable pub signs_after : ℕ → List ℕ → (ℕ → List ℕ) → ℕ → List ℤ
signs_after d S r zero = start_signs d
signs_after d S r (suc n) = step_signs (signs_after d S r n) (order_after S r n) (r n)
