-- The new order as a loop fills it: x is the number of ones that are left, and y stands k places below x.
-- Assumes nothing.
use Prim.Native.Nat.{ℕ, zero, suc, pred, ◌+◌, ◌-◌, ◌*◌, ◌≤◌, ◌<◌}
use mathlib.Core.Path.{◌≡◌, sym, ap, ap₂, ◌∙◌}
use mathlib.Core.List.{List, ◌∷◌, ◌++◌}
use native.Mathlib.Nat.{add-zero}
use native.Mathlib.Numerals.{add-one, sub-one}
use native.Mathlib.Omega.{arith}
use lib.ListN.{length, get_or, take, drop, set, replicate, length-append, length-replicate}
use lib.Seq.{sets, length-sets, get_or-take, get_or-set_same}
use Rattle.ladder.specs.Lists.{ones}
use Rattle.ladder.specs.Matrix.{order_from, step_order}
use Rattle.ladder.specs.Walk.{bits_of}
use Rattle.ladder.proofs.Step.{length-step_order}
use Rattle.ladder.proofs.Walk.{length-bits_of}
use Rattle.bits.proofs.StepBits.{bit_below, bits_left, no_bits_left, ones_left, ones_room}
use Rattle.ladder.proofs.Writes.{sets_front, sets_before}

-- After k places: the rest of the order, written behind them, makes the whole.
pub record Filling (d : ℕ) (old : List ℕ) (n : ℕ) (new : List ℕ) (x k : ℕ) : Type 0 where
  pub within : k ≤ d
  pub left : x ≡ ones (drop k (bits_of d n))
  pub done : sets new k (order_from (take d old) x (x + k) (drop k (bits_of d n))) ≡ step_order (take d old) (bits_of d n) ++ replicate (8 - d) 0

module _ (d : ℕ) (old : List ℕ) (n : ℕ) (small : d ≤ 8) where
  pub filling_start : (x : ℕ) → x ≡ ones (bits_of d n) → Filling d old n (replicate 8 0) x 0
  unfolding step_order
  filling_start x e = record {
    within = omega arith;
    left = e;
    done =
        ap₂ (λ a b. sets (replicate 8 0) 0 (order_from (take d old) a b (bits_of d n))) e (add-zero x ∙ e)
        ∙ sets_front d 8 0 (step_order (take d old) (bits_of d n)) (length-step_order (take d old) (bits_of d n) ∙ length-bits_of d n) small;
  }

  module _ {new : List ℕ} {x k : ℕ} (f : Filling d old n new x k) where
    pub filling_end : d ≤ k → new ≡ step_order (take d old) (bits_of d n) ++ replicate (8 - d) 0
    unfolding order_from
    filling_end h = sym (ap (λ b. sets new k (order_from (take d old) x (x + k) b)) (no_bits_left d n k h)) ∙ f.done

    -- Where bit k is 1, x falls ..
    pub filling_one : k < d → get_or (bits_of d n) k 0 ≡ 1 → Filling d old n (set new k (get_or old (x - 1) 0)) (x - 1) (k + 1)
    unfolding order_from
    filling_one h b =
        let rest : x ≡ 1 + ones (drop (k + 1) (bits_of d n)) = omega (arith, f.left, ones_left d n k h) in
        let place : get_or (take d old) (pred x) 0 ≡ get_or old (pred x) 0 =
        get_or-take d old (pred x) 0 (omega (arith, ones_room d n (k + 1) (omega arith))) in
        let below : pred x + suc k ≡ x + k = omega arith in
        record {
          within = omega arith;
          left = omega arith;
          done =
              rw (sub-one x, add-one k, below, ← place)
              (sym (ap (λ r. sets new k (order_from (take d old) x (x + k) r)) (bits_left d n k h ∙ ap (λ c. c ∷ drop (suc k) (bits_of d n)) b))
              ∙ f.done);
        }

    -- .. and where it is 0, y grows.
    pub filling_zero : k < d → get_or (bits_of d n) k 0 ≡ 0 → Filling d old n (set new k (get_or old (x + k) 0)) x (k + 1)
    unfolding order_from
    filling_zero h b =
        let rest : x ≡ ones (drop (k + 1) (bits_of d n)) = omega (arith, f.left, ones_left d n k h) in
        let place : get_or (take d old) (x + k) 0 ≡ get_or old (x + k) 0 =
        get_or-take d old (x + k) 0 (omega (arith, ones_room d n (k + 1) (omega arith))) in
        let below : x + suc k ≡ suc (x + k) = omega arith in
        record {
          within = omega arith;
          left = rest;
          done =
              rw (add-one k, below, ← place)
              (sym (ap (λ r. sets new k (order_from (take d old) x (x + k) r)) (bits_left d n k h ∙ ap (λ c. c ∷ drop (suc k) (bits_of d n)) b))
              ∙ f.done);
        }

    -- Whichever it is, this is what it does.
    pub filling_next : k < d → (b : ℕ) → b ≡ get_or (bits_of d n) k 0
        → Filling d old n (set new k (get_or old (x - b + k * (1 - b)) 0)) (x - b) (k + 1)
    filling_next h zero e =
        let place : x - 0 + k * (1 - 0) ≡ x + k = omega arith in
        let same : x - 0 ≡ x = omega arith in
        rw (place, same) (filling_zero h (sym e))
    filling_next h (suc zero) e =
        let place : x - 1 + k * (1 - 1) ≡ x - 1 = omega arith in
        rw place (filling_one h (sym e))
    filling_next h (suc (suc b)) e = absurd (omega (arith, bit_below d n k))

    -- The column that it writes is the new order's at this place.
    pub filling_place : k < d → (b : ℕ) → b ≡ get_or (bits_of d n) k 0
        → get_or old (x - b + k * (1 - b)) 0 ≡ get_or (step_order (take d old) (bits_of d n) ++ replicate (8 - d) 0) k 0
    filling_place h b e =
        let c = get_or old (x - b + k * (1 - b)) 0 in
        let eight : length new ≡ 8 =
        omega (
          arith,
          small,
          length-sets new k (order_from (take d old) x (x + k) (drop k (bits_of d n))),
          ap length f.done,
          length-append (step_order (take d old) (bits_of d n)) (replicate (8 - d) 0),
          length-step_order (take d old) (bits_of d n),
          length-bits_of d n,
          length-replicate {A = ℕ} (8 - d) 0,
        ) in
        sym (ap (λ l. get_or l k 0) (sym (filling_next h b e).done)
        ∙ sets_before (set new k c) (k + 1) (order_from (take d old) (x - b) (x - b + (k + 1)) (drop (k + 1) (bits_of d n))) k 0 (omega arith)
        ∙ get_or-set_same new k c 0 (omega (arith, eight)))

-- Bit k is among the ones that are left, and the places that it reads are inside.
pub filling_room : {d : ℕ} {old : List ℕ} {n : ℕ} {new : List ℕ} {x k : ℕ} → Filling d old n new x k → k < d
    → (get_or (bits_of d n) k 0 ≤ x) × (x + k < d + get_or (bits_of d n) k 0) × (get_or (bits_of d n) k 0 < 2)
filling_room {d} {old} {n} {new} {x} {k} f h =
    let left = ones_left d n k h in
    let room = ones_room d n (k + 1) (omega arith) in
    (omega (arith, f.left), omega (arith, f.left), bit_below d n k)

-- So b, which is bit k, can be taken from x, and the place that is read then is inside.
pub filling_reads : {d : ℕ} {old : List ℕ} {n : ℕ} {new : List ℕ} {x k : ℕ} → Filling d old n new x k → k < d → (b : ℕ)
    → b ≡ get_or (bits_of d n) k 0 → (b ≤ x) × (b < 2) × (x - b + k * (1 - b) < d)
filling_reads f h zero e = (omega arith, omega arith, omega (arith, filling_room f h))
filling_reads f h (suc zero) e = (omega (arith, filling_room f h), omega arith, omega (arith, filling_room f h))
filling_reads f h (suc (suc b)) e = absurd (omega (arith, filling_room f h))

-- What a loop that fills the order asks of these laws.
pub ruleset filling = (filling_room, filling_start, filling_end)
