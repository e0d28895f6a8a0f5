-- The start state: the start order and as many signs +1, each in front of zeros.
-- Assumes nothing.
use Prim.Native.Nat.{ℕ, pred, ◌-◌, ◌≤◌}
use mathlib.Core.Path.{◌≡◌, ap, ap₂, ◌∙◌}
use mathlib.Core.List.{List, ◌++◌, map}
use native.Mathlib.Omega.{arith}
use lib.IntN.{ℤ, pos}
use lib.ListN.{length, drop, take, replicate}
use lib.Seq.{length-take-le}
use Rattle.std.proofs.lemmas.List.{drop-replicate}
use Rattle.ladder.specs.Matrix.{OrderOk, start_signs}
use Rattle.ladder.specs.Plan.{Plan, start_order}
use Rattle.ladder.specs.Walk.{Walk, walk_of}
use Rattle.ladder.proofs.Refusals.{Accepted}
use Rattle.ladder.proofs.Tests.{order_long}

-- The first places overwritten by what is placed there, and the zeros behind it.
pub started : {d : ℕ} {start : List ℕ} → (d ≤ 8) × OrderOk d start → (order : List ℕ) (signs : List ℤ)
    → order ≡ start → signs ≡ replicate (length (take (length start) (replicate 8 (pos 0)))) (pos 1)
    → record { d = d; order = order ++ drop (length start) (replicate 8 0); signs = signs ++ drop (length start) (replicate 8 (pos 0)) }
    ≡ walk_of d (map pred start) (start_signs d)
unfolding walk_of start_signs
started {d} {start} ok order signs p q =
    let long : length start ≡ d = order_long start ok.1 in
    let zeros : (A : Type 0) (a : A) → drop (length start) (replicate 8 a) ≡ replicate (8 - d) a =
    λ A a. drop-replicate (length start) 8 a ∙ ap (λ n. replicate (8 - n) a) long in
    let ones : signs ≡ replicate d (pos 1) =
    q ∙ ap (λ n. replicate n (pos 1)) (length-take-le (length start) (replicate 8 (pos 0)) (omega (arith, ok.0)) ∙ long) in
    ap₂ (λ o n. record { d = d; order = o; signs = n })
    (ap₂ ◌++◌ (p ∙ ok.1.counted) (zeros ℕ 0))
    (ap₂ ◌++◌ ones (zeros ℤ (pos 0)))

-- ---- a plan's walk

-- The walk state that a plan starts with ..
abbrev pub start_of : Plan → Walk
start_of p = walk_of p.d (map pred p.start) (start_signs p.d)

-- .. which can be made of an accepted one.
pub can_start : (p : Plan) → Accepted p → (p.d ≤ 8) × OrderOk p.d p.start
unfolding start_order
can_start p ok = (ok.d_high, record { columns = ok.start; counted = ok.columns })
