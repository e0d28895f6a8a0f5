-- When each refusal is 0, so that a call goes on, and which numbers it can be.
-- Assumes nothing.
use Prim.Native.Nat.{ℕ, zero, suc, ◌^◌, ◌≤◌, ◌<◌}
use mathlib.Core.Path.{◌≡◌, refl, sym}
use mathlib.Core.Logic.{◌↔◌, ◌⊎◌, inl, inr, ⊎_elim}
use mathlib.Core.List.{List, map}
use native.Mathlib.Decide.{dec_lt}
use native.Mathlib.Omega.{arith}
use lib.Dec.{eqb}
use lib.IntN.{pos}
use lib.ListN.{length, take, get_or, get_or-eq_default}
use Rattle.ladder.specs.Matrix.{Arrangement, OrderOk, Units}
use Rattle.ladder.specs.Plan.{Plan, start_order}
use Rattle.ladder.specs.Registers.{modulus}
use Rattle.ladder.specs.Walk.{Walk}
use Rattle.ladder.specs.Refusals.{dim, len, shape, step_shape, scalar, order, is_zero, walk_order, answer, too_large, element, trailer, distance, big, read_refusal, plan_refusal, loose_refusal, run_refusal}
use Rattle.ladder.proofs.Tests.{then_none, none_then, then_says, unless_is, unless_says, reworded, leb_says, eqb_says, and_says, within_says, past_says, below_says, is_arrangement_says, all_units_says, is_zero_says}

-- ---- the table: each refusal is 0 exactly where what it asks is so

-- d is from 1 to 8.
pub dim_none : (d : ℕ) → dim d ≡ 0 ↔ (1 ≤ d) × (d ≤ 8)
unfolding dim
dim_none d = unless_says 0 (within_says 1 8 d)

-- l is from 1 to 576.
pub len_none : (l : ℕ) → len l ≡ 0 ↔ (1 ≤ l) × (l ≤ 576)
unfolding len
len_none l = unless_says 1 (within_says 1 576 l)

-- A buffer has its length.
pub shape_none : (buffer : List ℕ) (n : ℕ) → shape buffer n ≡ 0 ↔ length buffer ≡ n
unfolding shape
shape_none buffer n = unless_says 2 (eqb_says (length buffer) n)

-- A step's number has d bits.
pub step_shape_none : (d n : ℕ) → step_shape d n ≡ 0 ↔ n < 2 ^ d
unfolding step_shape
step_shape_none d n = unless_says 2 (leb_says (suc n) (2 ^ d))

-- Every scalar has l bits.
pub scalar_none : (l : ℕ) (ks : List ℕ) → scalar l ks ≡ 0 ↔ ((j : ℕ) → j < length ks → get_or ks j 0 < 2 ^ l)
unfolding scalar
scalar_none l ks = unless_says 3 (below_says (2 ^ l) ks)

-- An order is an arrangement of 1..d.
pub order_none : (d : ℕ) (S : List ℕ) → order d S ≡ 0 ↔ OrderOk d S
unfolding order
order_none d S = unless_says 4 (is_arrangement_says d S)

-- A walk state: its first d places are an arrangement of 1..d, the signs of columns 1..d are 1 or -1, and past place d all is 0.
pub record WalkOk (w : Walk) : Type 0 where
  pub places : OrderOk w.d (take w.d w.order)
  pub units : Units w.d w.signs
  pub rest_order : (j : ℕ) → w.d ≤ j → get_or w.order j 0 ≡ 0
  pub rest_signs : (j : ℕ) → w.d ≤ j → get_or w.signs j (pos 0) ≡ pos 0

-- A walk state is in order.
pub walk_order_none : (w : Walk) → walk_order w ≡ 0 ↔ WalkOk w
unfolding walk_order
walk_order_none w =
    let places = is_arrangement_says w.d (take w.d w.order) in
    let units = all_units_says w.d w.signs in
    let rest_order = past_says (eqb 0) 0 w.d w.order (λ n. reworded (eqb_says 0 n) (sym, sym)) in
    let rest_signs = past_says is_zero (pos 0) w.d w.signs is_zero_says in
    unless_says 4 (reworded (and_says (and_says (and_says places units) rest_order) rest_signs) (
      λ t. record { places = t.0.0.0; units = t.0.0.1; rest_order = t.0.1; rest_signs = t.1 },
      λ ok. (((ok.places, ok.units), ok.rest_order), ok.rest_signs),
    ))

-- An answer row is from 1 to d+1.
pub answer_none : (d n : ℕ) → answer d n ≡ 0 ↔ (1 ≤ n) × (n ≤ suc d)
unfolding answer
answer_none d n = unless_says 5 (within_says 1 (suc d) n)

-- A modulus is at most 2^63.
pub too_large_none : (m : ℕ) → too_large m ≡ 0 ↔ m ≤ 2 ^ 63
unfolding too_large
too_large_none m = unless_says 6 (leb_says m (2 ^ 63))

-- The modulus is 0, or every element is below it.
pub element_none : (m : ℕ) (es : List ℕ) → element m es ≡ 0 ↔ (m ≡ 0) ⊎ ((j : ℕ) → j < length es → get_or es j 0 < m)
unfolding element
element_none zero es = (λ e. inl refl, λ e. refl)
element_none (suc m) es =
    unless_says 7 (reworded (below_says (suc m) es) (inr, ⊎_elim (λ e. absurd (omega arith)) (λ f. f)))

-- Accepted elements, which are words, are below the modulus.
pub elements_below : (m : ℕ) (es : List ℕ) → element m es ≡ 0 → ((j : ℕ) → get_or es j 0 < 2 ^ 64) → (j : ℕ) → get_or es j 0 < modulus m
unfolding modulus
elements_below zero es e words j = words j
elements_below (suc m) es e words j = ⊎_elim (λ z. absurd (omega arith)) (λ f. go f (dec_lt j (length es))) ((element_none (suc m) es).0 e)
  where
    go : ((i : ℕ) → i < length es → get_or es i 0 < suc m) → Dec (j < length es) → get_or es j 0 < suc m
    go f (yes h) = f j h
    go f (no h) = omega (arith, get_or-eq_default es 0 {n = j} (omega arith))

-- ---- a plan that is read

-- What an accepted plan promises.
pub record Accepted (p : Plan) : Type 0 where
  pub d_low : 1 ≤ p.d
  pub d_high : p.d ≤ 8
  pub l_low : 1 ≤ p.l
  pub l_high : p.l ≤ 576
  pub start : Arrangement p.d (start_order p)
  pub columns : p.start ≡ map suc (start_order p)
  pub answer_low : 1 ≤ p.answer
  pub answer_high : p.answer ≤ suc p.d

-- What is read past the shapes: an arrangement, and a row of the matrix.
pub read_none : (p : Plan) → read_refusal p ≡ 0 ↔ OrderOk p.d p.start × ((1 ≤ p.answer) × (p.answer ≤ suc p.d))
unfolding read_refusal
read_none p = then_says (order_none p.d p.start) (answer_none p.d p.answer)

plan_refusal_none : (p : Plan) (shapes : ℕ) → plan_refusal p shapes ≡ 0 → Accepted p × (shapes ≡ 0)
unfolding plan_refusal start_order
plan_refusal_none p shapes e =
    let a = then_none (dim p.d) _ e in
    let b = then_none (len p.l) _ a.1 in
    let c = then_none shapes _ b.1 in
    let ds = (dim_none p.d).0 a.0 in
    let ls = (len_none p.l).0 b.0 in
    let read = (read_none p).0 c.1 in (
      record {
        d_low = ds.0;
        d_high = ds.1;
        l_low = ls.0;
        l_high = ls.1;
        start = read.0.columns;
        columns = read.0.counted;
        answer_low = read.1.0;
        answer_high = read.1.1;
      },
      c.0,
    )

-- A plan that is not refused is an accepted one.
pub accepted : (p : Plan) (shapes : ℕ) → plan_refusal p shapes ≡ 0 → Accepted p
accepted p shapes e = (plan_refusal_none p shapes e).0

-- A plan that is not refused has its shapes right.
pub accepted_shapes : (p : Plan) (shapes : ℕ) → plan_refusal p shapes ≡ 0 → shapes ≡ 0
accepted_shapes p shapes e = (plan_refusal_none p shapes e).1

-- Of an accepted plan what is read is not refused ..
pub accept_read : (p : Plan) → Accepted p → read_refusal p ≡ 0
unfolding start_order
accept_read p ok = (read_none p).1 (record { columns = ok.start; counted = ok.columns }, (ok.answer_low, ok.answer_high))

-- .. so with its shapes right it is not refused.
pub accept : (p : Plan) → Accepted p → plan_refusal p 0 ≡ 0
unfolding plan_refusal
accept p ok =
    let ds = (dim_none p.d).1 (ok.d_low, ok.d_high) in
    let ls = (len_none p.l).1 (ok.l_low, ok.l_high) in
    none_then _ _ ds (none_then _ _ ls (none_then 0 _ refl (accept_read p ok)))

-- A run that is not refused has an accepted plan, and elements that fit.
pub run_accepted_plan : (p : Plan) (m : ℕ) (es regs : List ℕ) → run_refusal p m es regs ≡ 0
    → Accepted p × (((j : ℕ) → get_or es j 0 < 2 ^ 64) → (j : ℕ) → get_or es j 0 ≤ modulus m)
unfolding run_refusal loose_refusal
run_accepted_plan p m es regs e =
    let a = then_none (plan_refusal p _) _ e in
    let b = then_none (too_large m) _ a.1 in
    (accepted p _ a.0, λ words j. omega (arith, elements_below m es b.1 words j))

-- ---- each refusal is 0 or its own number

-- 1 DIM.
pub dim_is : (d : ℕ) → (dim d ≡ 0) ⊎ (dim d ≡ 1)
unfolding dim
dim_is d = unless_is _ 1

-- 2 LENGTH.
pub len_is : (l : ℕ) → (len l ≡ 0) ⊎ (len l ≡ 2)
unfolding len
len_is l = unless_is _ 2

-- 3 SHAPE, of a buffer.
pub shape_is : (buffer : List ℕ) (n : ℕ) → (shape buffer n ≡ 0) ⊎ (shape buffer n ≡ 3)
unfolding shape
shape_is buffer n = unless_is _ 3

-- 3 SHAPE, of a step.
pub step_shape_is : (d n : ℕ) → (step_shape d n ≡ 0) ⊎ (step_shape d n ≡ 3)
unfolding step_shape
step_shape_is d n = unless_is _ 3

-- 4 SCALAR.
pub scalar_is : (l : ℕ) (ks : List ℕ) → (scalar l ks ≡ 0) ⊎ (scalar l ks ≡ 4)
unfolding scalar
scalar_is l ks = unless_is _ 4

-- 5 ORDER.
pub order_is : (d : ℕ) (S : List ℕ) → (order d S ≡ 0) ⊎ (order d S ≡ 5)
unfolding order
order_is d S = unless_is _ 5

-- 5 ORDER, of a walk state.
pub walk_order_is : (w : Walk) → (walk_order w ≡ 0) ⊎ (walk_order w ≡ 5)
unfolding walk_order
walk_order_is w = unless_is _ 5

-- 6 ROW.
pub answer_is : (d n : ℕ) → (answer d n ≡ 0) ⊎ (answer d n ≡ 6)
unfolding answer
answer_is d n = unless_is _ 6

-- 7 MODULUS.
pub too_large_is : (m : ℕ) → (too_large m ≡ 0) ⊎ (too_large m ≡ 7)
unfolding too_large
too_large_is m = unless_is _ 7

-- 8 ELEMENT.
pub element_is : (m : ℕ) (es : List ℕ) → (element m es ≡ 0) ⊎ (element m es ≡ 8)
unfolding element
element_is zero es = inl refl
element_is (suc m) es = unless_is _ 8

-- 9 TRAILER, by its length and mark.
pub trailer_is : (file : List ℕ) → (trailer file ≡ 0) ⊎ (trailer file ≡ 9)
unfolding trailer
trailer_is file = unless_is _ 9

-- 9 TRAILER, by its back distance.
pub distance_is : (file : List ℕ) → (distance file ≡ 0) ⊎ (distance file ≡ 9)
unfolding distance
distance_is file = unless_is _ 9

-- 10 BIG.
pub big_is : (file : List ℕ) → (big file ≡ 0) ⊎ (big file ≡ 10)
unfolding big
big_is file = unless_is _ 10
