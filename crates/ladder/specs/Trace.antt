-- The trace: what each step adds to what, and the difference of the two rows.
-- Assumes nothing.
use Rattle.std.specs.Prelude.{ℕ, suc, ◌+◌, ◌-◌, ℤ, pos, negsuc, get_or}
use mathlib.Core.List.{List, [], ◌∷◌, map, flatten}
use Rattle.std.proofs.Math.IntN.{sub_ℕ}
use Rattle.ladder.specs.Lists.{tabulate, joined, same, ones}
use Rattle.ladder.specs.Matrix.{Row, Matrix, row, Pair, additions}
use Rattle.ladder.specs.Plan.{Plan, matrix_in, step_bits}

-- Row v minus row u, of d columns.
unfoldable pub difference : ℕ → Row → Row → List ℤ
difference d v u = tabulate d (λ j. sub_ℕ (get_or v j 0) (get_or u j 0))

-- Row y minus row x of a matrix: the difference vector of an operation.
unfoldable pub vector_of : ℕ → Matrix → Pair → List ℤ
vector_of d B p = difference d (row B p.y) (row B p.x)

-- An entry: the rows x and y that are added (the rules' rows x+1 and y+1), and row y minus row x.
pub record Entry : Type 0 where
  pub x : ℕ
  pub y : ℕ
  pub vector : List ℤ

-- The rows of each operation of a step, in row order: the doubling of row h, then the additions.
unfoldable pub operations : List ℕ → List Pair
operations r = record { x = ones r; y = ones r } ∷ additions r

-- The entry of one operation, from the matrix B before the step.
unfoldable pub entry_of : ℕ → Matrix → Pair → Entry
entry_of d B p = record { x = p.x; y = p.y; vector = vector_of d B p }

-- The entries of a step with bits r from the matrix B before it.
unfoldable pub block : ℕ → Matrix → List ℕ → List Entry
block d B r = map (entry_of d B) (operations r)

-- The entries of step s of a plan (the rules' step s+1).
unfoldable pub block_in : Plan → ℕ → List Entry
block_in p s = block p.d (matrix_in p s) (step_bits p s)

-- The entries of all its steps, in order.
unfoldable pub entries_in : Plan → List Entry
entries_in p = joined p.l (block_in p)

-- A signed number as a byte, two's complement: -1 is FF.
unfoldable pub signed_byte : ℤ → ℕ
signed_byte (pos n) = n
signed_byte (negsuc n) = 255 - n

-- An entry's bytes: x and y, counted from 1, then the vector.
unfoldable pub entry_bytes : Entry → List ℕ
entry_bytes e = suc e.x ∷ suc e.y ∷ map signed_byte e.vector

-- The bytes of entries, one after the other. The first block of the plan of 2, 1 is 02 02 00 00, 01 02 01 00, 01 03 01 01.
unfoldable pub trace_bytes : List Entry → List ℕ
trace_bytes es = flatten (map entry_bytes es)

-- The doublings are the entries with x = y ..
unfoldable pub doublings : List Entry → ℕ
doublings [] = 0
doublings (e ∷ es) = same e.x e.y + doublings es

-- .. and the additions the others.
unfoldable pub addition_count : List Entry → ℕ
addition_count [] = 0
addition_count (e ∷ es) = (1 - same e.x e.y) + addition_count es
