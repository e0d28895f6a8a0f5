-- A step takes any state matrix, with its order and signs, to a state matrix with the order and signs that the rules give; and a
-- state matrix has exactly one order.
-- Assumes nothing.
use Prim.Native.Nat.{ℕ, suc, ◌<◌}
use mathlib.Core.Path.{◌≡◌, sym, ◌∙◌}
use mathlib.Core.Logic.{⊎_elim}
use mathlib.Core.List.{List}
use native.Mathlib.Decide.{ℕ_discrete}
use native.Mathlib.Omega.{arith}
use lib.ListN.{length, get_or}
use lib.Seq.{ext_get_or}
use Rattle.ladder.specs.Matrix.{Matrix, entry, StateMatrix, signs_of, step, step_order, step_signs}
use Rattle.ladder.proofs.Stairs.{stairs, from_stairs, stairs_step}
use Rattle.ladder.proofs.Signs.{signs_step}

-- A step takes any state matrix to a state matrix, whose order is the one that the rule gives (an arrangement again) ..
pub step_state : {d : ℕ} {B : Matrix} {S : List ℕ} → StateMatrix d B S → (r : List ℕ) → length r ≡ d
    → StateMatrix d (step B r) (step_order S r)
step_state M r long = from_stairs (stairs_step (stairs M) r long)

-- .. and whose signs are those that the rule gives.
pub step_signs_lem : {d : ℕ} {B : Matrix} {S : List ℕ} → StateMatrix d B S → (r : List ℕ) → length r ≡ d
    → signs_of d (step B r) ≡ step_signs (signs_of d B) S r
step_signs_lem M r long = signs_step (stairs M) r long

-- A state matrix has exactly one order.
pub one_order : {d : ℕ} {B : Matrix} (S U : List ℕ) → StateMatrix d B S → StateMatrix d B U → S ≡ U
one_order {d} {B} S U M N =
    ext_get_or 0 S U (M.order.long ∙ sym N.order.long) (λ k h. go k (omega (arith, M.order.long)) (ℕ_discrete (get_or S k 0) (get_or U k 0)))
  where
    differ : (k : ℕ) → k < d → entry B k (get_or S k 0) ≡ entry B (suc k) (get_or S k 0) → ⊥
    differ k h e = ⊎_elim (λ p. omega arith) (λ p. omega arith) (M.next k h).here

    go : (k : ℕ) → k < d → Dec (get_or S k 0 ≡ get_or U k 0) → get_or S k 0 ≡ get_or U k 0
    go k h (yes e) = e
    go k h (no n) = absurd (differ k h ((N.next k h).elsewhere (get_or S k 0) n))
