-- A step with its entries as one loop makes them: the new order, the new signs and the block, place by place.
-- Assumes nothing.
use Prim.Native.Nat.{ℕ, suc, pred, ◌+◌, ◌-◌, ◌*◌, ◌≤◌, ◌<◌}
use mathlib.Core.Path.{◌≡◌, sym, ap, ap₂, ◌∙◌}
use mathlib.Core.List.{List, ◌++◌, map, append_assoc, append-nil}
use native.Mathlib.Numerals.{add-one}
use native.Mathlib.Nat.{mul-le-mul_right}
use native.Mathlib.Omega.{arith}
use borrow.Rule.Slice.PartMut.{put_mid, same_len_mid}
use lib.IntN.{ℤ, pos}
use lib.ListN.{length, get_or, take, drop, set, replicate, length-append, length-drop}
use lib.Seq.{take_at, length-take-le}
use Rattle.std.proofs.lemmas.List.{take_all}
use Rattle.std.proofs.lemmas.Slice.{take-put_mid}
use Rattle.ladder.specs.Lists.{ones}
use Rattle.ladder.specs.Trace.{entry_bytes, trace_bytes}
use Rattle.ladder.specs.Walk.{Walk, bits_of, step_walk}
use Rattle.ladder.proofs.Signs.{turned}
use Rattle.bits.specs.Ready.{Columns, Ready}
use Rattle.bits.specs.WalkBlock.{walk_block}
use Rattle.bits.proofs.Additions.{entry_at}
use Rattle.bits.proofs.Filling.{Filling, filling_room, filling_reads}
use Rattle.bits.proofs.SmallSigns.{unit_fits}
use Rattle.bits.proofs.Turning.{column_at}
use Rattle.bits.proofs.Moving.{new_order, comes, Moving, new_columns, moving_start, moving_taken, moving_vector, moving_next, moving_end}
use Rattle.bits.proofs.StepBits.{ones_left, ones_room}
use Rattle.trace.proofs.Blocks.{rest_bytes, bytes_next, bytes_none, block_bytes}

-- The first entry's place in a block's buffer, and that of the entry of addition k.
pub first_place : (d : ℕ) (out : List ℕ) → length out ≡ (d + 1) * (d + 2) → length (take (d + 2) out) ≡ d + 2
first_place d out e = length-take-le (d + 2) out (omega arith)

pub entry_place : (d k m : ℕ) (out : List ℕ) → k < d → length out ≡ (d + 1) * (d + 2) → m ≡ d + 2
    → ((k + 1) * (d + 2) ≤ length out) × (length (take m (drop ((k + 1) * (d + 2)) out)) ≡ d + 2)
entry_place d k m out h e f =
    let room : (k + 1) * (d + 2) + (d + 2) ≤ length out = omega (arith, mul-le-mul_right {m = k + 2} {n = d + 1} (d + 2) (omega arith)) in
    (omega arith, length-take-le m (drop ((k + 1) * (d + 2)) out) (omega (arith, length-drop ((k + 1) * (d + 2)) out)) ∙ f)

-- The place that is read holds a column from 1 to d.
pub filling_column : {d : ℕ} {old : List ℕ} {n : ℕ} {new : List ℕ} {x k : ℕ} → Columns d old → Filling d old n new x k → k < d → (b : ℕ)
    → b ≡ get_or (bits_of d n) k 0
    → (1 ≤ get_or old (x - b + k * (1 - b)) 0) × (get_or old (x - b + k * (1 - b)) 0 - 1 < d)
filling_column a f h b e =
    let at = column_at a _ (filling_reads f h b e).2 in
    (at.0, omega (arith, at))

-- The bytes of the additions from addition k on, v being the vector before them.
abbrev after : Walk → ℕ → List ℤ → ℕ → ℕ → List ℕ
after w n v x k = rest_bytes w.d w.signs (new_order w n) n v x k

-- After k places: the order and the signs are those of `Moving`, and the bytes written, with those of the additions that are left, are the block's.
pub record Walked (w : Walk) (n : ℕ) (out : List ℕ) (v : List ℤ) (order : List ℕ) (signs : List ℤ) (x k : ℕ) : Type 0 where
  pub moving : Moving w n order signs x k
  pub whole : length out ≡ (w.d + 1) * (w.d + 2)
  pub done : take ((k + 1) * (w.d + 2)) out ++ after w n v x k
      ≡ trace_bytes (walk_block w.d (take w.d w.signs) (map pred (take w.d (new_order w n))) (bits_of w.d n))

module _ {w : Walk} (ready : Ready w) (n : ℕ) where
  -- The doubling's entry is written first.
  pub walked_start : (out : List ℕ) → length out ≡ (w.d + 1) * (w.d + 2) → (x : ℕ) → x ≡ ones (bits_of w.d n)
      → (entry : List ℕ) → length entry ≡ length (take (w.d + 2) out) → entry ≡ entry_bytes (entry_at w.d x x (replicate 8 (pos 0)))
      → Walked w n (entry ++ drop (w.d + 2) out) (replicate 8 (pos 0)) (replicate 8 0) (replicate 8 (pos 0)) x 0
  walked_start out all x e entry same wrote =
      let behind = drop (w.d + 2) out in
      let long = same ∙ first_place w.d out all in
      record {
        moving = moving_start ready n x e;
        whole = omega (arith, length-append entry behind, length-drop (w.d + 2) out);
        done =
            ap (λ l. l ++ after w n (replicate 8 (pos 0)) x 0) (take_at entry behind ((0 + 1) * (w.d + 2)) (omega arith) ∙ wrote)
            ∙ ap (λ y. entry_bytes (entry_at w.d y y (replicate 8 (pos 0))) ++ after w n (replicate 8 (pos 0)) y 0) e
            ∙ sym (block_bytes w.d w.signs (new_columns ready n) n ready.high);
      }

  module _ {out : List ℕ} {v : List ℤ} {order : List ℕ} {signs : List ℤ} {x k : ℕ} (s : Walked w n out v order signs x k) where
    module _ (h : k < w.d) (b : ℕ) (e : b ≡ get_or (bits_of w.d n) k 0) where
      -- The addition's rows are rows.
      pub walked_rows : x - b + (k + 1) ≤ w.d
      walked_rows = omega (arith, s.moving.filling.left, ones_left w.d n k h, ones_room w.d n (k + 1) (omega arith))

      -- One place more, whose addition's entry is written at its place.
      pub walked_next : (v' : List ℤ) → v' ≡ set v (comes w.order x k b - 1) (get_or w.signs (comes w.order x k b - 1) (pos 0))
          → (i : ℕ) → b ≡ i → (t : ℤ) → t ≡ turned i (get_or w.signs (comes w.order x k b - 1) (pos 0))
          → (m y : ℕ) → m ≡ w.d + 2 → y ≡ x - b + (k + 1) → (entry : List ℕ) → length entry ≡ length (take m (drop ((k + 1) * (w.d + 2)) out))
          → entry ≡ entry_bytes (entry_at w.d (x - b) y v')
          → Walked w n (put_mid ((k + 1) * (w.d + 2)) m out entry) v'
          (set order k (comes w.order x k b)) (set signs (comes w.order x k b - 1) t) (x - b) (k + 1)
      walked_next v' p i f t q m y wide row entry kept wrote =
          let at = (k + 1) * (w.d + 2) in
          let place = entry_place w.d k m out h s.whole wide in
          let next : (k + 1 + 1) * (w.d + 2) ≡ at + length entry = omega (arith, kept ∙ place.1) in
          let new = moving_vector ready n s.moving h b e v v' p in
          let same : y ≡ x - b + suc k = omega arith in
          record {
            moving = moving_next ready n s.moving h b e i f t q;
            whole = same_len_mid at m out entry kept ∙ s.whole;
            done =
                ap (λ l. l ++ after w n v' (x - b) (k + 1)) (take-put_mid at m out entry ((k + 1 + 1) * (w.d + 2)) next place.0)
                ∙ append_assoc (take at out) entry (after w n v' (x - b) (k + 1))
                ∙ ap (λ l. take at out ++ l)
                (ap (λ l. l ++ after w n v' (x - b) (k + 1)) (wrote ∙ ap (λ j. entry_bytes (entry_at w.d (x - b) j v')) same)
                ∙ ap₂ (λ u j. entry_bytes (entry_at w.d (x - b) (x - b + suc k) u) ++ after w n u (x - b) j) new (add-one k)
                ∙ sym (bytes_next w.d w.signs (new_columns ready n) n v x (x - b) k h (moving_taken ready n s.moving h b e)))
                ∙ s.done;
          }

    -- After the last the arrays are those of the walk's step, and the bytes are the block's.
    pub walked_end : w.d ≤ k → length w.signs ≡ 8
        → (record { d = w.d; order = order; signs = signs } ≡ step_walk w n)
        × (out ≡ trace_bytes (walk_block w.d (take w.d w.signs) (map pred (take w.d order)) (bits_of w.d n)))
    walked_end h long =
        let moved = moving_end ready n s.moving h long in
        let last : k ≡ w.d = omega (arith, s.moving.filling.within) in
        let all : take ((k + 1) * (w.d + 2)) out ≡ out = rw last (take_all ((w.d + 1) * (w.d + 2)) out (omega (arith, s.whole))) in (
          moved.1,
          rw moved.0
              (sym (append-nil out)
              ∙ sym (ap₂ ◌++◌ all (bytes_none w.d w.signs (new_columns ready n) n v x k h))
              ∙ s.done),
        )

-- What a loop that writes a block asks of these laws.
pub ruleset walking = (filling_room, filling_column, unit_fits)
