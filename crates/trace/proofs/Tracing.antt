-- The trace of a range of steps as a loop writes it, block by block.
-- Assumes nothing.
use Prim.Native.Nat.{ℕ, suc, pred, ◌+◌, ◌-◌, ◌*◌, ◌≤◌, ◌<◌}
use mathlib.Core.Path.{◌≡◌, refl, sym, ap, ap₂, subst, ◌∙◌}
use mathlib.Core.List.{List, [], ◌++◌, map, flatten, append_assoc, append-nil}
use native.Mathlib.Nat.{add-zero, zero-mul, sub-zero, suc-mul, mul-le-mul_right}
use native.Mathlib.Numerals.{add-one}
use native.Mathlib.Omega.{arith}
use borrow.Rule.Slice.PartMut.{put_mid, same_len_mid}
use lib.ListN.{length, take, drop, length-drop}
use lib.Seq.{length-take-le}
use Rattle.std.proofs.lemmas.List.{take_all}
use Rattle.std.proofs.lemmas.Slice.{take-put_mid}
use Rattle.ladder.specs.Trace.{trace_bytes}
use Rattle.ladder.specs.Walk.{Walk, bits_of, step_walk}
use Rattle.ladder.proofs.Trace.{trace_bytes-append}
use Rattle.bits.specs.Ready.{Ready}
use Rattle.bits.specs.ReadBits.{ReadBits}
use Rattle.bits.specs.WalkBlock.{walk_block}
use Rattle.bits.proofs.Stepping.{ready_step}
use Rattle.trace.specs.Inner.{walk_entries, CanTrace, TraceLeft}
use Rattle.trace.proofs.WalkBlocks.{block_of, block_of_arrays, entries_next, step_d, entries_doublings, entries_additions}

-- The bytes of a step's block.
abbrev size : ℕ → ℕ
size d = (d + 1) * (d + 2)

-- Before step i of the range, which is step `from` + i: the bytes written, with those of the steps that are left, are those of all.
pub record Tracing (w₀ : Walk) (bytes : List ℕ) (from to : ℕ) (out : List ℕ) (i : ℕ) (w : Walk) : Type 0 where
  pub ready : Ready w
  pub width : w.d ≡ w₀.d
  pub whole : length out ≡ (to - from) * size w₀.d
  pub done : take (i * size w₀.d) out ++ trace_bytes (walk_entries w bytes (from + i) (to - from - i)) ≡ trace_bytes (walk_entries w₀ bytes from (to - from))

module _ {w₀ : Walk} {bytes : List ℕ} {from to : ℕ} {start : List ℕ} (asks : CanTrace w₀ bytes from to start) where
  pub tracing_start : Tracing w₀ bytes from to start 0 w₀
  tracing_start = record {
    ready = asks.ready;
    width = refl;
    whole = asks.room;
    done =
        ap₂ (λ n m. take n start ++ trace_bytes (walk_entries w₀ bytes m (to - from - 0))) (zero-mul (size w₀.d)) (add-zero from)
        ∙ ap (λ m. take 0 start ++ trace_bytes (walk_entries w₀ bytes from m)) (sub-zero (to - from));
  }

  -- The bits of each step are there.
  pub bits_there : (s : ℕ) → s < to → s * w₀.d + w₀.d ≤ 8 * length bytes
  bits_there s h = omega (arith, suc-mul s w₀.d, mul-le-mul_right {m = suc s} {n = to} w₀.d h, asks.bits)

  module _ {out : List ℕ} {i : ℕ} {w : Walk} (t : Tracing w₀ bytes from to out i w) where
    -- The block's place in the buffer.
    pub block_place : (m : ℕ) → i < to - from → m ≡ size w₀.d
        → (i * size w₀.d + size w₀.d ≤ length out) × (length (take m (drop (i * size w₀.d) out)) ≡ size w.d)
    block_place m h e =
        let at = i * size w₀.d in
        let room : at + size w₀.d ≤ length out =
        omega (arith, t.whole, suc-mul i (size w₀.d), mul-le-mul_right {m = suc i} {n = to - from} (size w₀.d) h) in (
          room,
          length-take-le m (drop at out) (omega (arith, length-drop at out)) ∙ e ∙ sym (ap size t.width),
        )

    -- One step more, its block written.
    pub tracing_next : i < to - from → (n : ℕ) → ReadBits w₀.d (from + i) bytes n → (next : Walk) → next ≡ step_walk w n
        → (m : ℕ) → m ≡ size w₀.d → (block : List ℕ) → length block ≡ length (take m (drop (i * size w₀.d) out))
        → block ≡ trace_bytes (walk_block w.d (take w.d w.signs) (map pred (take w.d next.order)) (bits_of w.d n))
        → Tracing w₀ bytes from to (put_mid (i * size w₀.d) m out block) (i + 1) next
    tracing_next h n read next e m wide block kept wrote =
        let at = i * size w₀.d in
        let place = block_place m h wide in
        let after : suc i * size w₀.d ≡ at + length block = omega (arith, suc-mul i (size w₀.d), kept ∙ place.1, ap size t.width) in
        let later = walk_entries (step_walk w n) bytes (suc (from + i)) (to - from - suc i) in
        let split : trace_bytes (walk_entries w bytes (from + i) (to - from - i)) ≡ trace_bytes (block_of w n) ++ trace_bytes later =
        ap trace_bytes
        (ap (walk_entries w bytes (from + i)) (omega arith)
        ∙ entries_next w bytes (from + i) (to - from - suc i) n (subst (λ d. ReadBits d (from + i) bytes n) (sym t.width) read))
        ∙ trace_bytes-append (block_of w n) later in
        let bytes_of : block ≡ trace_bytes (block_of w n) =
        wrote
        ∙ ap (λ v. trace_bytes (walk_block w.d (take w.d w.signs) (map pred (take w.d v.order)) (bits_of w.d n))) e
        ∙ ap trace_bytes (block_of_arrays t.ready n) in
        let follows : from + suc i ≡ suc (from + i) = omega arith in
        rw (e, add-one i) record {
          ready = ready_step t.ready n;
          width = step_d w n ∙ t.width;
          whole = same_len_mid at m out block kept ∙ t.whole;
          done =
              ap (λ s. take (suc i * size w₀.d) (put_mid at m out block) ++ trace_bytes (walk_entries (step_walk w n) bytes s (to - from - suc i))) follows
              ∙ ap (λ b. b ++ trace_bytes later)
              (take-put_mid at m out block (suc i * size w₀.d) after (omega (arith, place.0)))
              ∙ append_assoc (take at out) block (trace_bytes later)
              ∙ ap (λ b. take at out ++ b) (ap (λ b. b ++ trace_bytes later) bytes_of ∙ sym split)
              ∙ t.done;
        }

    -- No step left: every entry is written, and they are a doubling and d additions for each step.
    pub tracing_end : to - from ≤ i → TraceLeft (walk_entries w₀ bytes from (to - from)) out (to - from) ((to - from) * w₀.d)
    unfolding walk_entries trace_bytes flatten
    tracing_end h =
        let none : walk_entries w bytes (from + i) (to - from - i) ≡ [] = ap (walk_entries w bytes (from + i)) {x = to - from - i} {y = 0} (omega arith) in
        let all : take (i * size w₀.d) out ≡ out =
        take_all (i * size w₀.d) out (omega (arith, t.whole, mul-le-mul_right {m = to - from} {n = i} (size w₀.d) h)) in
        record {
          bytes = sym (append-nil out) ∙ sym (ap₂ (λ a es. a ++ trace_bytes es) all none) ∙ t.done;
          doubled = sym (entries_doublings (to - from) w₀ asks.ready bytes from);
          added = sym (entries_additions (to - from) w₀ asks.ready bytes from);
        }
