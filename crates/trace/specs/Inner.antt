-- The trace of a walk, by orders and signs and with no matrix. `walk_entries_lem` of proofs/PlanTrace.antt says that it is a plan's trace.
-- Assumes nothing.
use Rattle.std.specs.Prelude.{ℕ, zero, suc, ◌+◌, ◌-◌, ◌*◌, ◌≤◌, ◌≡◌, List, [], ◌++◌, length}
use Rattle.ladder.specs.Matrix.{step_order, step_signs}
use Rattle.ladder.specs.Numbers.{bits_at}
use Rattle.ladder.specs.Trace.{Entry, trace_bytes, doublings, addition_count}
use Rattle.ladder.specs.Walk.{Walk, walk_of, order_of, walk_signs}
use Rattle.bits.specs.Ready.{Ready}
use Rattle.bits.specs.WalkBlock.{walk_block}

-- The entries of the n steps from step s on, of a walk that stands before step s.
unfoldable pub walk_entries : Walk → List ℕ → ℕ → ℕ → List Entry
walk_entries w bytes s zero = []
walk_entries w bytes s (suc n) =
    walk_block w.d (walk_signs w) (step_order (order_of w) (bits_at w.d bytes s)) (bits_at w.d bytes s)
    ++ walk_entries
    (walk_of w.d (step_order (order_of w) (bits_at w.d bytes s)) (step_signs (walk_signs w) (order_of w) (bits_at w.d bytes s)))
    bytes (suc s) n

-- What the trace of steps s to e - 1 asks: a walk that can be stepped, their bits, and a buffer of their entries' length.
pub record CanTrace (w : Walk) (bytes : List ℕ) (s e : ℕ) (out : List ℕ) : Type 0 where
  pub ready : Ready w
  pub forward : s ≤ e
  pub last : e ≤ 576
  pub bits : e * w.d ≤ 8 * length bytes
  pub room : length out ≡ (e - s) * ((w.d + 1) * (w.d + 2))

-- What it leaves: the entries' bytes, and their counts.
pub record TraceLeft (es : List Entry) (out : List ℕ) (m n : ℕ) : Type 0 where
  pub bytes : out ≡ trace_bytes es
  pub doubled : m ≡ doublings es
  pub added : n ≡ addition_count es
