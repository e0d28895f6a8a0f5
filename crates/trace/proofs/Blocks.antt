-- The bytes of a step's block: the doubling's entry, and the additions' entries one after the other.
-- Assumes nothing.
use Prim.Native.Nat.{ℕ, suc, pred, ◌+◌, ◌≤◌, ◌<◌}
use mathlib.Core.Path.{◌≡◌, ap}
use mathlib.Core.List.{List, [], ◌++◌, map, flatten}
use lib.IntN.{ℤ, pos}
use lib.ListN.{get_or, take, replicate}
use Rattle.ladder.specs.Lists.{ones}
use Rattle.ladder.specs.Trace.{entry_bytes, trace_bytes}
use Rattle.ladder.specs.Walk.{bits_of}
use Rattle.bits.specs.Ready.{Columns}
use Rattle.bits.specs.WalkBlock.{walk_block}
use Rattle.bits.proofs.Additions.{entry_at, rest, more, rest_next, rest_none, block_rest}

-- The bytes of the additions from addition k on, v being the vector before them.
abbrev pub rest_bytes : ℕ → List ℤ → List ℕ → ℕ → List ℤ → ℕ → ℕ → List ℕ
rest_bytes d signs order n v x k = trace_bytes (rest d signs order n v x k)

module _ (d : ℕ) (signs : List ℤ) {order : List ℕ} (a : Columns d order) (n : ℕ) where
  -- One addition's, and those of the additions after it.
  pub bytes_next : (v : List ℤ) (x x' k : ℕ) → k < d → x ≡ get_or (bits_of d n) k 0 + x'
      → rest_bytes d signs order n v x k
      ≡ entry_bytes (entry_at d x' (x' + suc k) (more d signs a n v k)) ++ rest_bytes d signs order n (more d signs a n v k) x' (suc k)
  unfolding trace_bytes flatten
  bytes_next v x x' k h e = ap trace_bytes (rest_next d signs a n v x x' k h e)

  -- After the last there is none.
  pub bytes_none : (v : List ℤ) (x k : ℕ) → d ≤ k → rest_bytes d signs order n v x k ≡ []
  unfolding trace_bytes flatten
  bytes_none v x k h = ap trace_bytes (rest_none d signs a n v x k h)

  -- The doubling's bytes, and those of all additions behind them.
  pub block_bytes : d ≤ 8 → trace_bytes (walk_block d (take d signs) (map pred (take d order)) (bits_of d n))
      ≡ entry_bytes (entry_at d (ones (bits_of d n)) (ones (bits_of d n)) (replicate 8 (pos 0)))
      ++ rest_bytes d signs order n (replicate 8 (pos 0)) (ones (bits_of d n)) 0
  unfolding trace_bytes flatten
  block_bytes small = ap trace_bytes (block_rest d signs a n small)
