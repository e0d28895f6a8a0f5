-- A plan: d, l, a start order, the bits and an answer row, as they are lent or stored, and what a plan says.
-- Assumes nothing.
use Rattle.std.specs.Prelude.{ℕ, pred, List, map, ℤ}
use Rattle.ladder.specs.Numbers.{bits_at, words_of_all, value_words}
use Rattle.ladder.specs.Matrix.{Row, Matrix, row, matrix_after, order_after, signs_after}

-- The start order's columns and the answer row are counted from 1 here, as the rules and the bytes have them.
pub record Plan : Type 0 where
  pub d : ℕ
  pub l : ℕ
  pub start : List ℕ
  pub bits : List ℕ
  pub answer : ℕ

-- A plan as its parts are lent to a call.
abbrev pub plan_lent : ℕ → ℕ → List ℕ → List ℕ → ℕ → Plan
plan_lent d l start bits answer = record { d = d; l = l; start = start; bits = bits; answer = answer }

-- The start order, columns from 0.
unfoldable pub start_order : Plan → List ℕ
start_order p = map pred p.start

-- The bits of step s (the rules' step s+1). For the steps of a plan, s below l, no filling bit is asked for.
abbrev pub step_bits : Plan → ℕ → List ℕ
step_bits p s = bits_at p.d p.bits s

-- The matrix after n steps of a plan; after s steps is before step s (the rules' step s+1).
unfoldable pub matrix_in : Plan → ℕ → Matrix
matrix_in p n = matrix_after p.d (start_order p) (step_bits p) n

-- The order after n steps.
unfoldable pub order_in : Plan → ℕ → List ℕ
order_in p n = order_after (start_order p) (step_bits p) n

-- The signs after n steps.
unfoldable pub signs_in : Plan → ℕ → List ℤ
signs_in p n = signs_after p.d (start_order p) (step_bits p) n

-- The last matrix: that after l steps.
unfoldable pub last_matrix : Plan → Matrix
last_matrix p = matrix_in p p.l

-- The end order: that of the last matrix.
unfoldable pub end_order : Plan → List ℕ
end_order p = order_in p p.l

-- The answer row of the last matrix: what a plan decodes to.
unfoldable pub answer_row : Plan → Row
answer_row p = row (last_matrix p) (pred p.answer)

-- What decoding writes: each entry of the answer row in floor(l / 64) + 1 words, in column order.
unfoldable pub values_in : Plan → List ℕ
values_in p = words_of_all (value_words p.l) (answer_row p)
