-- The signs after a step are those that the rule gives: turning reaches the column that stands at a new place with bit 1.
-- Assumes nothing.
use Prim.Native.Nat.{ℕ, zero, suc, ◌+◌, ◌<◌}
use mathlib.Core.Path.{◌≡◌, refl, sym, ap, ap₂, subst, ◌∙◌}
use mathlib.Core.Logic.{◌⊎◌, inl, inr}
use mathlib.Core.Bool.{Bool, true, false, cond}
use mathlib.Core.List.{List, [], ◌∷◌}
use native.Mathlib.Nat.{le_of_suc-le-suc, not-suc-le-zero}
use native.Mathlib.Omega.{arith}
use lib.Dec.{T, eqb, eqb→eq, eqb_refl}
use lib.IntN.{ℤ, pos, negsuc, neg_ℤ}
use lib.ListN.{length, get_or, set, length-set}
use lib.Seq.{ext_get_or, get_or-set_same, get_or-set_other}
use Rattle.ladder.specs.Lists.{count}
use Rattle.ladder.specs.Matrix.{Matrix, entry, sign_of, signs_of, step, step_order, turn, step_signs}
use Rattle.ladder.proofs.Lists.{length-tabulate, get_or-tabulate, same_is, count_at}
use Rattle.ladder.proofs.Step.{length-step_order}
use Rattle.ladder.proofs.Order.{place_of}
use Rattle.ladder.proofs.Stairs.{Stairs, next_even, stair_step, new_order}

pub sign_up : (e o : ℕ) → o ≡ suc e → sign_of e o ≡ pos 1
unfolding sign_of
sign_up e o p = go (eqb o (suc e)) refl (subst (λ n. T (eqb o n)) p (eqb_refl o))
  where
    go : (b : Bool) → eqb o (suc e) ≡ b → T b → sign_of e o ≡ pos 1
    go true q t = ap (λ c. cond c (pos 1) (negsuc 0)) q
    go false q t = absurd t

pub sign_down : (e o : ℕ) → e ≡ suc o → sign_of e o ≡ negsuc 0
unfolding sign_of
sign_down e o p = go (eqb o (suc e)) refl
  where
    go : (b : Bool) → eqb o (suc e) ≡ b → sign_of e o ≡ negsuc 0
    go true q = absurd (let f = eqb→eq o (suc e) (subst (λ c. T c) (sym q) tt) in omega arith)
    go false q = ap (λ c. cond c (pos 1) (negsuc 0)) q

pub length-turn : (signs : List ℤ) (S r : List ℕ) → length (turn signs S r) ≡ length signs
unfolding turn
length-turn signs [] r = refl
length-turn signs (j ∷ S) [] = refl
length-turn signs (j ∷ S) (zero ∷ r) = length-turn signs S r
length-turn signs (j ∷ S) (suc b ∷ r) =
    length-turn _ S r ∙ length-set signs j _

-- A sign after a step that gives its column this bit.
abbrev pub turned : ℕ → ℤ → ℤ
turned zero s = s
turned (suc b) s = neg_ℤ s

turn_none : (signs : List ℤ) (S r : List ℕ) (j : ℕ) → count j S ≡ 0 → get_or (turn signs S r) j (pos 0) ≡ get_or signs j (pos 0)
unfolding turn count
turn_none signs [] r j h = refl
turn_none signs (i ∷ S) [] j h = refl
turn_none signs (i ∷ S) (zero ∷ r) j h = turn_none signs S r j (omega arith)
turn_none signs (i ∷ S) (suc b ∷ r) j h =
    turn_none _ S r j (omega arith) ∙ get_or-set_other signs i j _ (pos 0) (omega (arith, same_is i j))

-- Turning reaches the column that stands at place k just where bit k is 1.
pub turn_at : (signs : List ℤ) (S r : List ℕ) (k : ℕ) → length S ≡ length r → k < length S → count (get_or S k 0) S ≡ 1
    → get_or S k 0 < length signs
    → get_or (turn signs S r) (get_or S k 0) (pos 0) ≡ turned (get_or r k 0) (get_or signs (get_or S k 0) (pos 0))
unfolding turn count
turn_at signs [] r k e h c l = absurd (not-suc-le-zero h)
turn_at signs (i ∷ S) [] k e h c l = absurd (omega arith)
turn_at signs (i ∷ S) (zero ∷ r) zero e h c l = turn_none signs S r i (omega (arith, same_is i i))
turn_at signs (i ∷ S) (suc b ∷ r) zero e h c l =
    turn_none _ S r i (omega (arith, same_is i i)) ∙ get_or-set_same signs i _ (pos 0) l
turn_at signs (i ∷ S) (zero ∷ r) (suc k) e h c l =
    turn_at signs S r k (omega arith) (le_of_suc-le-suc h)
    (omega (arith, count_at (get_or S k 0) S k (le_of_suc-le-suc h) refl)) l
turn_at signs (i ∷ S) (suc b ∷ r) (suc k) e h c l =
    let s = neg_ℤ (get_or signs i (pos 0)) in
    let more = count_at (get_or S k 0) S k (le_of_suc-le-suc h) refl in
    turn_at (set signs i s) S r k (omega arith) (le_of_suc-le-suc h) (omega arith) (omega (arith, length-set signs i s))
    ∙ ap (turned (get_or r k 0)) (get_or-set_other signs i (get_or S k 0) s (pos 0) (omega (arith, same_is i (get_or S k 0))))

pub length-signs_of : (d : ℕ) (B : Matrix) → length (signs_of d B) ≡ d
unfolding signs_of
length-signs_of d B = length-tabulate d (λ j. sign_of (entry B 0 j) (entry B d j))

pub get_or-signs_of : (d : ℕ) (B : Matrix) (j : ℕ) → j < d → get_or (signs_of d B) j (pos 0) ≡ sign_of (entry B 0 j) (entry B d j)
unfolding signs_of
get_or-signs_of d B j h = get_or-tabulate d (λ i. sign_of (entry B 0 i) (entry B d i)) j (pos 0) h

module _ {d : ℕ} {B : Matrix} {S : List ℕ} (C : Stairs d B S) (r : List ℕ) (long : length r ≡ d) where
  next_sign : (b e o : ℕ) → (o ≡ suc e) ⊎ (e ≡ suc o) → sign_of (next_even b e o) (e + o) ≡ turned b (sign_of e o)
  next_sign zero e o (inl p) = sign_up (e + e) (e + o) (omega arith) ∙ sym (sign_up e o p)
  next_sign zero e o (inr p) = sign_down (e + e) (e + o) (omega arith) ∙ sym (sign_down e o p)
  next_sign (suc b) e o (inl p) = sign_down (o + o) (e + o) (omega arith) ∙ ap neg_ℤ (sym (sign_up e o p))
  next_sign (suc b) e o (inr p) = sign_up (o + o) (e + o) (omega arith) ∙ ap neg_ℤ (sym (sign_down e o p))

  sign_at : (k : ℕ) → k < d
      → get_or (signs_of d (step B r)) (get_or (step_order S r) k 0) (pos 0)
      ≡ get_or (turn (signs_of d B) (step_order S r) r) (get_or (step_order S r) k 0) (pos 0)
  sign_at k h =
      let new = new_order C r long in
      let j = get_or (step_order S r) k 0 in
      let st = stair_step C r long k h in
      get_or-signs_of d (step B r) j (new.inside k h)
      ∙ ap₂ sign_of (st.upper 0 (omega arith)) (st.lower d h (omega arith))
      ∙ next_sign (get_or r k 0) (entry B 0 j) (entry B d j) (C.apart j (new.inside k h))
      ∙ ap (turned (get_or r k 0)) (sym (get_or-signs_of d B j (new.inside k h)))
      ∙ sym (turn_at (signs_of d B) (step_order S r) r k (length-step_order S r) (omega (arith, length-step_order S r))
      (new.once j (new.inside k h)) (omega (arith, length-signs_of d B, new.inside k h)))

  -- The signs after a step are those that the rule gives.
  pub signs_step : signs_of d (step B r) ≡ step_signs (signs_of d B) S r
  unfolding step_signs
  signs_step =
      ext_get_or (pos 0) (signs_of d (step B r)) (turn (signs_of d B) (step_order S r) r)
      (length-signs_of d (step B r) ∙ sym (length-signs_of d B) ∙ sym (length-turn (signs_of d B) (step_order S r) r))
      (λ j h.
      let p = place_of (new_order C r long) j (omega (arith, length-signs_of d (step B r))) in
      subst
      (λ c. get_or (signs_of d (step B r)) c (pos 0) ≡ get_or (turn (signs_of d B) (step_order S r) r) c (pos 0))
      p.2 (sign_at p.0 p.1))
