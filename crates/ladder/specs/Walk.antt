-- A paused walk and its single step.
-- Assumes nothing.
use Rattle.std.specs.Prelude.{ℕ, suc, pred, ◌-◌, ◌/◌, ◌%◌, ◌^◌, List, ◌++◌, map, ℤ, pos, take, replicate}
use Rattle.ladder.specs.Lists.{tabulate}
use Rattle.ladder.specs.Matrix.{step_order, step_signs}

-- A walk state: d; the order, columns counted from 1, in eight places; eight signs, sign j that of column j. Past d all are 0.
pub record Walk : Type 0 where
  pub d : ℕ
  pub order : List ℕ
  pub signs : List ℤ

-- The bits of a step as one number: r1 (here bit 0) has weight 2^(d-1).
unfoldable pub bits_of : ℕ → ℕ → List ℕ
bits_of d n = tabulate d (λ k. n / 2 ^ (d - suc k) % 2)

-- The walk state with this order, columns from 0, and these signs.
unfoldable pub walk_of : ℕ → List ℕ → List ℤ → Walk
walk_of d S signs = record {
  d = d;
  order = map suc S ++ replicate (8 - d) 0;
  signs = signs ++ replicate (8 - d) (pos 0);
}

-- The order that a walk state holds, columns from 0 ..
unfoldable pub order_of : Walk → List ℕ
order_of w = map pred (take w.d w.order)

-- .. and the signs.
unfoldable pub walk_signs : Walk → List ℤ
walk_signs w = take w.d w.signs

-- The state after one step with the bits that n stands for.
unfoldable pub step_walk : Walk → ℕ → Walk
step_walk w n =
    walk_of w.d (step_order (order_of w) (bits_of w.d n)) (step_signs (walk_signs w) (order_of w) (bits_of w.d n))
