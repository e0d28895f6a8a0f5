-- A step of a walk as one loop makes it: the new order and the new signs, place by place.
-- Assumes nothing.
use Prim.Native.Nat.{ℕ, ◌+◌, ◌-◌, ◌*◌, ◌≤◌, ◌<◌}
use mathlib.Core.Path.{◌≡◌, sym, ap, subst, ◌∙◌}
use mathlib.Core.List.{List, ◌++◌}
use native.Mathlib.Omega.{arith}
use lib.IntN.{ℤ, pos}
use lib.ListN.{length, get_or, take, set, replicate}
use Rattle.ladder.specs.Lists.{ones}
use Rattle.ladder.specs.Matrix.{step_order, IsUnit}
use Rattle.ladder.specs.Walk.{Walk, bits_of, step_walk}
use Rattle.ladder.proofs.Signs.{turned}
use Rattle.ladder.proofs.Walk.{length-bits_of}
use Rattle.bits.specs.Ready.{Columns, Ready}
use Rattle.bits.proofs.Filling.{Filling, filling_start, filling_next, filling_place, filling_reads, filling_end}
use Rattle.bits.proofs.Stepping.{columns_step, next_is}
use Rattle.bits.proofs.Turning.{Turning, column_at, turning_start, turning_next, turning_end}

-- The order after the step, in eight places.
abbrev pub new_order : Walk → ℕ → List ℕ
new_order w n = step_order (take w.d w.order) (bits_of w.d n) ++ replicate (8 - w.d) 0

-- The column that comes to place k where x ones are left and bit k is b.
abbrev pub comes : List ℕ → ℕ → ℕ → ℕ → ℕ
comes old x k b = get_or old (x - b + k * (1 - b)) 0

-- What place k reads: the bit can be taken from x, the place is inside, and d is at most 8; it holds a column from 1 to d, whose sign is 1 or -1.
pub record Reads (d : ℕ) (old : List ℕ) (signs : List ℤ) (x k b : ℕ) : Type 0 where
  pub place : (b ≤ x) × (b < 2) × (x - b + k * (1 - b) < d) × (d ≤ 8)
  pub column : (1 ≤ comes old x k b) × (comes old x k b - 1 < d)
  pub unit : IsUnit (get_or signs (comes old x k b - 1) (pos 0))

-- After k places the order is that of `Filling`, and the signs are those of `Turning`.
pub record Moving (w : Walk) (n : ℕ) (order : List ℕ) (signs : List ℤ) (x k : ℕ) : Type 0 where
  pub filling : Filling w.d w.order n order x k
  pub turning : Turning w.d w.signs (new_order w n) n signs k

module _ {w : Walk} (ready : Ready w) (n : ℕ) where
  pub new_columns : Columns w.d (new_order w n)
  new_columns = columns_step ready.order (bits_of w.d n) (length-bits_of w.d n) (replicate (8 - w.d) 0)

  pub moving_start : (x : ℕ) → x ≡ ones (bits_of w.d n) → Moving w n (replicate 8 0) (replicate 8 (pos 0)) x 0
  moving_start x e = record {
    filling = filling_start w.d w.order n ready.high x e;
    turning = turning_start ready.high new_columns w.signs n;
  }

  module _ {order : List ℕ} {signs : List ℤ} {x k : ℕ} (s : Moving w n order signs x k) where
    module _ (h : k < w.d) (b : ℕ) (e : b ≡ get_or (bits_of w.d n) k 0) where
      -- The bit, taken from x.
      pub moving_taken : x ≡ get_or (bits_of w.d n) k 0 + (x - b)
      moving_taken = omega (arith, filling_reads s.filling h b e, e)

      -- The column that comes is the new order's.
      here : comes w.order x k b ≡ get_or (new_order w n) k 0
      here = filling_place w.d w.order n ready.high s.filling h b e

      pub moving_reads : Reads w.d w.order w.signs x k b
      moving_reads =
          let r = filling_reads s.filling h b e in
          let there = column_at new_columns k h in
          let below : comes w.order x k b - 1 < w.d = omega (arith, here, there) in
          record {
            place = (r.0, r.1, r.2, ready.high);
            column = (omega (arith, here, there), below);
            unit = ready.signs _ below;
          }

      -- So a vector that gets its sign gets the sign of the new order's column.
      pub moving_vector : (v v' : List ℤ) → v' ≡ set v (comes w.order x k b - 1) (get_or w.signs (comes w.order x k b - 1) (pos 0))
          → v' ≡ set v (get_or (new_order w n) k 0 - 1) (get_or w.signs (get_or (new_order w n) k 0 - 1) (pos 0))
      moving_vector v v' p = p ∙ ap (λ c. set v (c - 1) (get_or w.signs (c - 1) (pos 0))) here

      -- One place more.
      pub moving_next : (i : ℕ) → b ≡ i → (t : ℤ) → t ≡ turned i (get_or w.signs (comes w.order x k b - 1) (pos 0))
          → Moving w n (set order k (comes w.order x k b)) (set signs (comes w.order x k b - 1) t) (x - b) (k + 1)
      moving_next i f t q = record {
        filling = filling_next w.d w.order n ready.high s.filling h b e;
        turning =
            subst (λ c. Turning w.d w.signs (new_order w n) n (set signs (c - 1) t) (k + 1)) (sym here)
            (turning_next ready.high new_columns w.signs n s.turning h i (sym e ∙ f) t
            (q ∙ ap (λ c. turned i (get_or w.signs (c - 1) (pos 0))) here));
      }

    -- After the last the arrays are those of the walk's step.
    pub moving_end : w.d ≤ k → length w.signs ≡ 8
        → (order ≡ new_order w n) × (record { d = w.d; order = order; signs = signs } ≡ step_walk w n)
    moving_end h long =
        let new = filling_end w.d w.order n ready.high s.filling h in
        let turns = turning_end ready.high new_columns w.signs n long s.turning h in
        (new, next_is ready n order signs new (rw new turns))
