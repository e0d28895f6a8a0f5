-- A step's entries as a loop makes them: x is the number of ones that are left, and each addition fills in one sign more.
-- Assumes nothing.
use Prim.Native.Nat.{ℕ, zero, suc, pred, ◌+◌, ◌-◌, ◌≤◌, ◌<◌}
use mathlib.Core.Path.{◌≡◌, sym, ap, ap₂, ◌∙◌}
use mathlib.Core.List.{List, [], ◌∷◌, map}
use native.Mathlib.Nat.{add-zero}
use native.Mathlib.Omega.{arith}
use lib.IntN.{ℤ, pos}
use lib.ListN.{get_or, take, drop, set, replicate, drop_of_length-le}
use lib.Seq.{drop-cons, get_or-take, take-set-lt}
use Rattle.ladder.specs.Lists.{ones}
use Rattle.ladder.specs.Matrix.{pairs_from, additions}
use Rattle.ladder.specs.Trace.{Entry}
use Rattle.ladder.specs.Walk.{bits_of}
use Rattle.bits.specs.Ready.{Columns}
use Rattle.bits.specs.WalkBlock.{filled, walk_block}
use Rattle.bits.proofs.StepBits.{bit_below, bits_left}
use Rattle.ladder.proofs.Writes.{take-replicate}
use Rattle.bits.proofs.Turning.{column, column_at}

-- The entry of rows x and y with the first d coefficients of a vector.
abbrev pub entry_at : ℕ → ℕ → ℕ → List ℤ → Entry
entry_at d x y v = record { x = x; y = y; vector = take d v }

-- The additions from addition k on, v being the vector before them.
unfoldable pub rest : ℕ → List ℤ → List ℕ → ℕ → List ℤ → ℕ → ℕ → List Entry
rest d signs order n v x k =
    filled (take d v) (take d signs) (drop k (map pred (take d order))) (pairs_from x (x + k) (drop k (bits_of d n)))

-- The rows of one addition, and of those after it.
pub pairs_next : (b x x' k : ℕ) (r : List ℕ) → b < 2 → x ≡ b + x'
    → pairs_from x (x + k) (b ∷ r) ≡ record { x = x'; y = x' + suc k } ∷ pairs_from x' (x' + suc k) r
unfolding pairs_from
pairs_next zero x x' k r h e =
    ap₂ (λ a c. record { x = a; y = c } ∷ pairs_from a c r) {x = x} {y = x'} {u = suc (x + k)} {v = x' + suc k} (omega arith) (omega arith)
pairs_next (suc zero) x x' k r h e =
    ap₂ (λ a c. record { x = a; y = c } ∷ pairs_from a c r) {x = pred x} {y = x'} {u = x + k} {v = x' + suc k} (omega arith) (omega arith)
pairs_next (suc (suc b)) x x' k r h e = absurd (omega arith)

module _ (d : ℕ) (signs : List ℤ) {order : List ℕ} (a : Columns d order) (n : ℕ) where
  -- The vector with the sign of the column at place k filled in.
  abbrev pub more : List ℤ → ℕ → List ℤ
  more v k = set v (get_or order k 0 - 1) (get_or signs (get_or order k 0 - 1) (pos 0))

  -- One addition, and those after it.
  pub rest_next : (v : List ℤ) (x x' k : ℕ) → k < d → x ≡ get_or (bits_of d n) k 0 + x'
      → rest d signs order n v x k ≡ entry_at d x' (x' + suc k) (more v k) ∷ rest d signs order n (more v k) x' (suc k)
  unfolding rest filled
  rest_next v x x' k h e =
      let S = map pred (take d order) in
      let j = column d order k in
      let c = column_at a k h in
      let places : drop k S ≡ j ∷ drop (suc k) S = drop-cons S k 0 (omega (arith, a.columns.long)) in
      let pairs = ap (pairs_from x (x + k)) (bits_left d n k h)
      ∙ pairs_next (get_or (bits_of d n) k 0) x x' k (drop (suc k) (bits_of d n)) (bit_below d n k) e in
      let vector : set (take d v) j (get_or (take d signs) j (pos 0)) ≡ take d (more v k) =
      ap (set (take d v) j) (get_or-take d signs j (pos 0) c.2) ∙ sym (take-set-lt d v j (get_or signs j (pos 0)) c.2)
      ∙ ap (λ i. take d (set v i (get_or signs i (pos 0)))) (sym c.1) in
      ap₂ (λ T ps. filled (take d v) (take d signs) T ps) places pairs
      ∙ ap (λ u. record { x = x'; y = x' + suc k; vector = u }
      ∷ filled u (take d signs) (drop (suc k) S) (pairs_from x' (x' + suc k) (drop (suc k) (bits_of d n)))) vector

  -- After the last there is none.
  pub rest_none : (v : List ℤ) (x k : ℕ) → d ≤ k → rest d signs order n v x k ≡ []
  unfolding rest filled
  rest_none v x k h =
      ap (λ T. filled (take d v) (take d signs) T (pairs_from x (x + k) (drop k (bits_of d n))))
      (drop_of_length-le (map pred (take d order)) {i = k} (omega (arith, a.columns.long)))

  -- The doubling, and all additions, are the step's block.
  pub block_rest : d ≤ 8
      → walk_block d (take d signs) (map pred (take d order)) (bits_of d n)
      ≡ entry_at d (ones (bits_of d n)) (ones (bits_of d n)) (replicate 8 (pos 0))
      ∷ rest d signs order n (replicate 8 (pos 0)) (ones (bits_of d n)) 0
  unfolding rest walk_block additions
  block_rest small =
      let h = ones (bits_of d n) in
      ap₂ (λ u y. record { x = h; y = h; vector = u } ∷ filled u (take d signs) (map pred (take d order)) (pairs_from h y (bits_of d n)))
      (sym (take-replicate d 8 (pos 0) small)) (sym (add-zero h))
