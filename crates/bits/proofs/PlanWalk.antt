-- What is judged before: an accepted plan's walk can be stepped, before every step, and so can a walk state that is not refused.
-- Assumes nothing.
use Prim.Native.Nat.{ℕ, suc, pred, ◌-◌, ◌≤◌}
use mathlib.Core.Path.{◌≡◌, sym, ap, subst, ◌∙◌}
use mathlib.Core.Logic.{inl, inr, ⊎_elim}
use mathlib.Core.List.{List, ◌++◌, map}
use native.Mathlib.Omega.{arith}
use lib.IntN.{ℤ, pos}
use lib.ListN.{length, get_or, take, replicate, length-map, get_or-append}
use lib.Seq.{take_at}
use Rattle.ladder.specs.Matrix.{Arrangement, start_signs, order_after, signs_after, IsUnit, Units}
use Rattle.ladder.specs.Plan.{Plan, start_order, matrix_in, order_in, signs_in}
use Rattle.ladder.specs.Walk.{Walk, walk_of}
use Rattle.ladder.proofs.Stairs.{stairs}
use Rattle.ladder.proofs.Signs.{length-signs_of, get_or-signs_of}
use Rattle.ladder.proofs.Ladder.{sign_by_lower}
use Rattle.ladder.proofs.Walk.{pred-suc}
use Rattle.ladder.proofs.Refusals.{Accepted, WalkOk}
use Rattle.ladder.proofs.Demand3.{state_in, signs_in_lem}
use Rattle.bits.specs.Ready.{Columns, Ready}

-- A walk state that is not refused can be stepped.
pub ready_walk : (w : Walk) → 1 ≤ w.d → w.d ≤ 8 → WalkOk w → Ready w
ready_walk w low high ok = record {
  low = low;
  high = high;
  order = record { columns = ok.places.columns; counted = ok.places.counted };
  signs = ok.units;
}

-- An arrangement, counted from 1, at the first places.
columns_of : {d : ℕ} {S : List ℕ} → Arrangement d S → (rest : List ℕ) → Columns d (map suc S ++ rest)
columns_of {d} {S} a rest =
    let first : take d (map suc S ++ rest) ≡ map suc S = take_at (map suc S) rest d (length-map S suc ∙ a.long) in
    let back : map pred (take d (map suc S ++ rest)) ≡ S = ap (map pred) first ∙ pred-suc S in
    record {
      columns = subst (Arrangement d) (sym back) a;
      counted = first ∙ ap (map suc) (sym back);
    }

module _ (p : Plan) (ok : Accepted p) where
  signs_unit : (s : ℕ) (rest : List ℤ) → Units p.d (signs_in p s ++ rest)
  signs_unit s rest j h =
      let B = matrix_in p s in
      let many : length (signs_in p s) ≡ p.d = ap length (sym (signs_in_lem p ok s)) ∙ length-signs_of p.d B in
      subst IsUnit
      (sym (get_or-append (signs_in p s) rest (pos 0) j (omega (arith, many))
      ∙ ap (λ l. get_or l j (pos 0)) (sym (signs_in_lem p ok s)) ∙ get_or-signs_of p.d B j h))
      (⊎_elim (λ e. inl e.0) (λ e. inr e.0) (sign_by_lower (stairs (state_in p ok s)) j h))

  -- Before every step of an accepted plan the walk can be stepped.
  pub ready_in : (s : ℕ) → Ready (walk_of p.d (order_in p s) (signs_in p s))
  unfolding walk_of
  ready_in s = record {
    low = ok.d_low;
    high = ok.d_high;
    order = columns_of (state_in p ok s).order (replicate (8 - p.d) 0);
    signs = signs_unit s (replicate (8 - p.d) (pos 0));
  }

  pub ready_start : Ready (walk_of p.d (start_order p) (start_signs p.d))
  unfolding order_in signs_in order_after signs_after
  ready_start = ready_in 0
