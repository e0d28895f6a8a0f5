-- A walk can go on: its start is in order, and a step that is not refused gives back a state that can be stepped again.
-- Assumes nothing.
use Prim.Native.Nat.{ℕ, zero, suc, ◌-◌, ◌^◌, ◌≤◌, ◌<◌}
use mathlib.Core.Path.{◌≡◌, refl, sym, ap, subst, ◌∙◌}
use mathlib.Core.Logic.{inl, inr, ⊎_elim}
use mathlib.Core.List.{List, [], ◌∷◌, ◌++◌, map}
use native.Mathlib.Nat.{not-suc-le-zero}
use native.Mathlib.Decide.{ℕ_discrete}
use native.Mathlib.Omega.{arith}
use lib.IntN.{ℤ, pos, neg_ℤ}
use lib.ListN.{length, get_or, set, replicate, length-map, length-set, length-replicate, get_or-replicate, get_or-append}
use lib.Seq.{take_at, get_or-take, get_or-set_same, get_or-set_other, length-take-le}
use Rattle.ladder.specs.Matrix.{Arrangement, start_signs, turn, step_signs, IsUnit, Units, OrderOk}
use Rattle.ladder.specs.Walk.{Walk, bits_of, walk_of, order_of, walk_signs, step_walk}
use Rattle.ladder.specs.Refusals.{walk_order, step_refusal}
use Rattle.ladder.proofs.Lists.{length-tabulate}
use Rattle.ladder.proofs.Order.{arrangement_step}
use Rattle.ladder.proofs.Signs.{length-turn}
use Rattle.ladder.proofs.Step.{length-step_order}
use Rattle.ladder.proofs.Walk.{pred-suc, length-bits_of, walk_places}
use Rattle.ladder.proofs.Tests.{units_long}
use Rattle.ladder.proofs.Refusals.{walk_order_none}
use Rattle.ladder.proofs.Operations.{step_none}

-- ---- signs

-- Turned signs are 1 or -1 too.
pub turn_units : {d : ℕ} (signs : List ℤ) (S r : List ℕ) → length signs ≡ d → Units d signs → Units d (turn signs S r)
unfolding turn
turn_units signs [] r e u = u
turn_units signs (i ∷ S) [] e u = u
turn_units signs (i ∷ S) (zero ∷ r) e u = turn_units signs S r e u
turn_units {d} signs (i ∷ S) (suc b ∷ r) e u =
    let s = neg_ℤ (get_or signs i (pos 0)) in
    turn_units (set signs i s) S r (length-set signs i s ∙ e) (λ j h. go j h (ℕ_discrete j i))
  where
    go : (j : ℕ) → j < d → Dec (j ≡ i) → IsUnit (get_or (set signs i (neg_ℤ (get_or signs i (pos 0)))) j (pos 0))
    go j h (yes same) =
        let l : i < length signs = omega arith in
        rw (same, get_or-set_same signs i (neg_ℤ (get_or signs i (pos 0))) (pos 0) l)
        (⊎_elim (λ p. inr (ap neg_ℤ p)) (λ p. inl (ap neg_ℤ p)) (u i (omega arith)))
    go j h (no ne) = rw (get_or-set_other signs i j (neg_ℤ (get_or signs i (pos 0))) (pos 0) ne) (u j h)

-- ---- a walk state that is in order

-- What is filled up is read as the filling.
filled : {A : Type 0} (s : List A) (n : ℕ) (z : A) (j : ℕ) → length s ≤ j → get_or (s ++ replicate n z) j z ≡ z
filled (a ∷ s) n z (suc j) h = filled s n z j (omega arith)
filled (a ∷ s) n z zero h = absurd (not-suc-le-zero h)
filled [] zero z j h = refl
filled [] (suc n) z zero h = refl
filled [] (suc n) z (suc j) h = filled [] n z j (omega arith)

-- An arrangement and as many signs of 1 and -1 make a walk state in order.
pub walk_in_order : {d : ℕ} {S : List ℕ} (signs : List ℤ) → d ≤ 8 → Arrangement d S → length signs ≡ d → Units d signs
    → walk_order (walk_of d S signs) ≡ 0
unfolding walk_of
walk_in_order {d} {S} signs h a e u =
    let long : length (map suc S) ≡ d = length-map S suc ∙ a.long in
    (walk_order_none (walk_of d S signs)).1 (record {
      places =
          subst (OrderOk d) (sym (take_at (map suc S) _ d long))
          (record { columns = rw (pred-suc S) a; counted = ap (map suc) (sym (pred-suc S)) });
      units = λ j l.
          let b : j < length signs = omega arith in
          rw (get_or-append signs (replicate (8 - d) (pos 0)) (pos 0) j b) (u j l);
      rest_order = λ j l. filled (map suc S) (8 - d) 0 j (omega arith);
      rest_signs = λ j l. filled signs (8 - d) (pos 0) j (omega arith);
    })

-- ---- start and step

-- The start of a walk is in order.
pub start_walk_ok : {d : ℕ} {S : List ℕ} → d ≤ 8 → Arrangement d S → walk_order (walk_of d S (start_signs d)) ≡ 0
unfolding start_signs
start_walk_ok {d} h a =
    walk_in_order (start_signs d) h a (length-replicate d (pos 1))
    (λ j l. inl (get_or-replicate d j (pos 1) (pos 0) l))

-- A step that is not refused gives back a walk state in order ..
pub walk_steps_on : (w : Walk) (n : ℕ) → step_refusal w n ≡ 0 → walk_order (step_walk w n) ≡ 0
unfolding step_walk step_signs order_of walk_signs bits_of
walk_steps_on w n e =
    let ok = (step_none w n).0 e in
    let long = length-take-le w.d w.signs (units_long w.d w.signs ok.walk.units) in
    let bits = bits_of w.d n in
    walk_in_order _ ok.dimension.1 (arrangement_step ok.walk.places.columns bits (length-tabulate w.d _))
    (length-turn (walk_signs w) _ bits ∙ long)
    (turn_units (walk_signs w) _ bits long (λ j h. rw get_or-take (ok.walk.units j h)))

-- .. of eight places and eight signs ..
pub walk_steps_eight : (w : Walk) (n : ℕ) → step_refusal w n ≡ 0
    → (length (step_walk w n).order ≡ 8) × (length (step_walk w n).signs ≡ 8)
unfolding step_walk step_signs order_of walk_signs
walk_steps_eight w n e =
    let ok = (step_none w n).0 e in
    let bits = bits_of w.d n in
    walk_places w.d _ _ ok.dimension.1 (length-step_order (order_of w) bits ∙ length-bits_of w.d n)
    (length-turn (walk_signs w) _ bits ∙ length-take-le w.d w.signs (units_long w.d w.signs ok.walk.units))

-- .. so it can be stepped again, with any bits.
pub walk_steps_again : (w : Walk) (n m : ℕ) → step_refusal w n ≡ 0 → m < 2 ^ w.d → step_refusal (step_walk w n) m ≡ 0
unfolding step_walk walk_of
walk_steps_again w n m e h =
    (step_none (step_walk w n) m).1 (record {
      dimension = ((step_none w n).0 e).dimension;
      walk = (walk_order_none (step_walk w n)).0 (walk_steps_on w n e);
      number = h;
    })
