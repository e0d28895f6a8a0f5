-- The arrays that a step leaves are those of the walk's step, and the walk can be stepped again.
-- Assumes nothing.
use Prim.Native.Nat.{ℕ, zero, suc, pred, ◌+◌, ◌-◌, ◌≤◌}
use mathlib.Core.Path.{◌≡◌, refl, sym, ap, ap₂, subst, ◌∙◌}
use mathlib.Core.Logic.{inl, inr, ⊎_elim}
use mathlib.Core.List.{List, [], ◌∷◌, ◌++◌, map}
use native.Mathlib.Omega.{arith}
use lib.IntN.{ℤ, pos, neg_ℤ}
use lib.ListN.{length, get_or, take, replicate, get_or-append}
use lib.Seq.{take_at, length-take-le, get_or-take}
use Rattle.bits.specs.ReadBits.{ReadBits}
use Rattle.ladder.proofs.Bits.{length-bits_at}
use Rattle.ladder.specs.Numbers.{bits_at}
use Rattle.ladder.specs.Lists.{ones}
use Rattle.ladder.specs.Matrix.{Arrangement, order_from, step_order, turn, step_signs, IsUnit, Units, order_after, signs_after}
use Rattle.ladder.specs.Walk.{Walk, bits_of, walk_of, order_of, walk_signs, step_walk}
use Rattle.ladder.proofs.Lists.{ones_le, get_or-map}
use Rattle.ladder.proofs.Step.{length-step_order}
use Rattle.ladder.proofs.Order.{place_of, arrangement_step}
use Rattle.ladder.proofs.Tests.{units_long}
use Rattle.ladder.proofs.Signs.{turned, turn_at, length-turn}
use Rattle.ladder.proofs.Walk.{pred-suc, length-bits_of, step_of_walk, length-order_after, length-signs_after}
use Rattle.bits.specs.Ready.{Columns, Ready}

-- ---- orders

-- The step of an order that counts its columns from 1 is the step of the order, counted from 1.
order_from-suc : (S : List ℕ) (x y : ℕ) (r : List ℕ) → ones r ≤ x → x ≤ length S → y + (length r - ones r) ≤ length S
    → order_from (map suc S) x y r ≡ map suc (order_from S x y r)
unfolding order_from ones
order_from-suc S x y [] o h l = refl
order_from-suc S x y (zero ∷ r) o h l =
    ap₂ (λ j rest. j ∷ rest) (get_or-map suc S y 0 0 (omega (arith, ones_le r)))
    (order_from-suc S x (suc y) r o h (omega (arith, ones_le r)))
order_from-suc S x y (suc b ∷ r) o h l =
    ap₂ (λ j rest. j ∷ rest) (get_or-map suc S (pred x) 0 0 (omega arith))
    (order_from-suc S (pred x) y r (omega arith) (omega arith) (omega arith))

pub step_order-suc : (S r : List ℕ) → length S ≡ length r → step_order (map suc S) r ≡ map suc (step_order S r)
unfolding step_order
step_order-suc S r e = order_from-suc S (ones r) (ones r) r (omega arith) (omega (arith, ones_le r)) (omega (arith, ones_le r))

module _ {d : ℕ} {order : List ℕ} (a : Columns d order) (r : List ℕ) (long : length r ≡ d) where
  -- The new order, by columns counted from 0.
  pub places_step : step_order (take d order) r ≡ map suc (step_order (map pred (take d order)) r)
  places_step = ap (λ S. step_order S r) a.counted ∙ step_order-suc (map pred (take d order)) r (a.columns.long ∙ sym long)

  first_places : (rest : List ℕ) → take d (step_order (take d order) r ++ rest) ≡ step_order (take d order) r
  first_places rest = take_at (step_order (take d order) r) rest d (length-step_order (take d order) r ∙ long)

  pub columns_after : (rest : List ℕ) → map pred (take d (step_order (take d order) r ++ rest)) ≡ step_order (map pred (take d order)) r
  columns_after rest = ap (map pred) (first_places rest ∙ places_step) ∙ pred-suc (step_order (map pred (take d order)) r)

  -- It is an arrangement again.
  pub columns_step : (rest : List ℕ) → Columns d (step_order (take d order) r ++ rest)
  columns_step rest = record {
    columns = subst (Arrangement d) (sym (columns_after rest)) (arrangement_step a.columns r long);
    counted = first_places rest ∙ places_step ∙ ap (map suc) (sym (columns_after rest));
  }

-- ---- signs

unit_turns : (b : ℕ) (s : ℤ) → IsUnit s → IsUnit (turned b s)
unit_turns zero s u = u
unit_turns (suc b) s u = ⊎_elim (λ e. inr (ap neg_ℤ e)) (λ e. inl (ap neg_ℤ e)) u

module _ (d : ℕ) (signs : List ℤ) (u : Units d signs) {S : List ℕ} (a : Arrangement d S) (r : List ℕ) (long : length r ≡ d) where
  first_signs : length (take d signs) ≡ d
  first_signs = length-take-le d signs (units_long d signs u)

  -- The turned signs are units again.
  pub units_step : (rest : List ℤ) → Units d (turn (take d signs) S r ++ rest)
  units_step rest j h =
      let p = place_of a j h in
      let many : length (turn (take d signs) S r) ≡ d = length-turn (take d signs) S r ∙ first_signs in
      let c = get_or S p.0 0 in
      subst IsUnit
      (sym (get_or-append (turn (take d signs) S r) rest (pos 0) j (omega (arith, many))
      ∙ ap (λ i. get_or (turn (take d signs) S r) i (pos 0)) (sym p.2)
      ∙ turn_at (take d signs) S r p.0 (a.long ∙ sym long) (omega (arith, p.1, a.long)) (a.once c (omega (arith, p.2)))
      (omega (arith, p.2, first_signs))))
      (unit_turns (get_or r p.0 0) (get_or (take d signs) c (pos 0))
      (subst IsUnit (sym (get_or-take d signs c (pos 0) (omega (arith, p.2)))) (u c (omega (arith, p.2)))))

-- ---- the walk

module _ {w : Walk} (ready : Ready w) (n : ℕ) where
  -- The arrays of the next state, as the order and the signs are worked out.
  pub next_is : (order : List ℕ) (signs : List ℤ)
      → order ≡ step_order (take w.d w.order) (bits_of w.d n) ++ replicate (8 - w.d) 0
      → signs ≡ turn (take w.d w.signs) (map pred (take w.d order)) (bits_of w.d n) ++ replicate (8 - w.d) (pos 0)
      → record { d = w.d; order = order; signs = signs } ≡ step_walk w n
  unfolding step_walk walk_of order_of walk_signs step_signs
  next_is order signs e f =
      let long = length-bits_of w.d n in
      let places = e ∙ ap (λ S. S ++ replicate (8 - w.d) 0) (places_step ready.order (bits_of w.d n) long) in
      let columns = ap (λ o. map pred (take w.d o)) e ∙ columns_after ready.order (bits_of w.d n) long (replicate (8 - w.d) 0) in
      ap₂ (λ o s. record { d = w.d; order = o; signs = s }) places
      (f ∙ ap (λ S. turn (take w.d w.signs) S (bits_of w.d n) ++ replicate (8 - w.d) (pos 0)) columns)

  -- A walk that was stepped can be stepped again.
  pub ready_step : Ready (step_walk w n)
  unfolding step_walk walk_of order_of walk_signs step_signs
  ready_step =
      let long = length-bits_of w.d n in
      let r = bits_of w.d n in
      record {
        low = ready.low;
        high = ready.high;
        order =
            subst (λ S. Columns w.d (S ++ replicate (8 - w.d) 0)) (places_step ready.order r long)
            (columns_step ready.order r long (replicate (8 - w.d) 0));
        signs = units_step w.d w.signs ready.signs (arrangement_step ready.order.columns r long) r long (replicate (8 - w.d) (pos 0));
      }

  -- The new order is an arrangement of the same columns.
  pub columns_next : (next : Walk) → next ≡ step_walk w n → Columns w.d next.order
  unfolding step_walk walk_of
  columns_next next e = subst (λ v. Columns w.d v.order) (sym e) ready_step.order

-- ---- along lent bits

-- A walk that stands after s steps stands, stepped with the bits of step s, after one more.
pub walk_on : (d : ℕ) (S bytes : List ℕ) (s n : ℕ) → length S ≡ d → ReadBits d s bytes n
    → step_walk (walk_of d (order_after S (bits_at d bytes) s) (signs_after d S (bits_at d bytes) s)) n
    ≡ walk_of d (order_after S (bits_at d bytes) (suc s)) (signs_after d S (bits_at d bytes) (suc s))
unfolding order_after signs_after
walk_on d S bytes s n long read =
    let f = bits_at d bytes in
    step_of_walk d (order_after S f s) (signs_after d S f s) n (length-order_after d S f long (length-bits_at d bytes) s) (length-signs_after d S f s)
    ∙ ap (λ b. walk_of d (step_order (order_after S f s) b) (step_signs (signs_after d S f s) (order_after S f s) b)) read.bits
