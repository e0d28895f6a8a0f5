-- The trace of a walk is the trace of its plan, and an accepted plan's walk can be traced.
-- Assumes nothing.
use Prim.Native.Nat.{ℕ, zero, suc, ◌+◌, ◌-◌, ◌*◌}
use mathlib.Core.Path.{◌≡◌, refl, sym, ap, ap₂, ◌∙◌}
use mathlib.Core.List.{List, ◌++◌, append_assoc, append-nil}
use native.Mathlib.Nat.{add-zero, zero-add, mul_assoc, sub-zero}
use native.Mathlib.Omega.{arith}
use lib.IntN.{ℤ}
use lib.ListN.{length}
use Rattle.ladder.specs.Lists.{joined}
use Rattle.ladder.specs.Numbers.{bits_at, bytes_for, bits_length, trace_length}
use Rattle.ladder.specs.Matrix.{start_signs, step_order, step_signs, order_after, signs_after}
use Rattle.ladder.specs.Plan.{Plan, start_order, step_bits, order_in, signs_in}
use Rattle.ladder.specs.Trace.{block_in, entries_in, trace_bytes, doublings, addition_count}
use Rattle.ladder.specs.Walk.{Walk, walk_of}
use Rattle.ladder.proofs.Lists.{joined_same}
use Rattle.ladder.proofs.Bits.{length-step_bits}
use Rattle.ladder.proofs.Walk.{order_of_walk, signs_of_walk, length-order_after, length-signs_after}
use Rattle.ladder.proofs.Refusals.{Accepted}
use Rattle.ladder.proofs.Demand3.{state_in, signs_in_lem}
use Rattle.bits.specs.WalkBlock.{walk_block}
use Rattle.bits.proofs.PlanWalk.{ready_start}
use Rattle.bits.proofs.WalkBlock.{walk_block_lem}
use Rattle.trace.specs.Inner.{walk_entries, CanTrace, TraceLeft}

-- The entries of a walk that holds S and signs, whose next bits are r.
entries_of : (d : ℕ) (S : List ℕ) (signs : List ℤ) (bytes : List ℕ) (s n : ℕ) (r : List ℕ)
    → length S ≡ d → length signs ≡ d → bits_at d bytes s ≡ r
    → walk_entries (walk_of d S signs) bytes s (suc n)
    ≡ walk_block d signs (step_order S r) r ++ walk_entries (walk_of d (step_order S r) (step_signs signs S r)) bytes (suc s) n
unfolding walk_entries walk_of
entries_of d S signs bytes s n r e f b = rw (order_of_walk d S signs e, signs_of_walk d S signs f, b)

joined_front : {A : Type 0} (n : ℕ) (f : ℕ → List A) → joined (suc n) f ≡ f 0 ++ joined n (λ i. f (suc i))
unfolding joined
joined_front zero f = sym (append-nil (f 0))
joined_front (suc n) f = ap (λ l. l ++ f (suc n)) (joined_front n f) ∙ append_assoc (f 0) (joined n (λ i. f (suc i))) (f (suc n))

module _ (p : Plan) (ok : Accepted p) where
  order_places : (s : ℕ) → length (order_in p s) ≡ p.d
  unfolding order_in
  order_places s = length-order_after p.d (start_order p) (step_bits p) ok.start.long (length-step_bits p) s

  signs_places : (s : ℕ) → length (signs_in p s) ≡ p.d
  unfolding signs_in
  signs_places s = length-signs_after p.d (start_order p) (step_bits p) s

  block_in_lem : (s : ℕ) → walk_block p.d (signs_in p s) (step_order (order_in p s) (step_bits p s)) (step_bits p s) ≡ block_in p s
  unfolding block_in
  block_in_lem s =
      ap (λ signs. walk_block p.d signs (step_order (order_in p s) (step_bits p s)) (step_bits p s)) (sym (signs_in_lem p ok s))
      ∙ walk_block_lem (state_in p ok s) (step_bits p s) (length-step_bits p s)

  -- The entries of the walk from the state before step s are the plan's blocks from step s on.
  pub walk_entries_lem : (n s : ℕ)
      → walk_entries (walk_of p.d (order_in p s) (signs_in p s)) p.bits s n ≡ joined n (λ i. block_in p (s + i))
  unfolding walk_entries joined order_in signs_in order_after signs_after
  walk_entries_lem zero s = refl
  walk_entries_lem (suc n) s =
      entries_of p.d (order_in p s) (signs_in p s) p.bits s n (step_bits p s) (order_places s) (signs_places s) refl
      ∙ ap₂ (λ b es. b ++ es)
      (block_in_lem s ∙ ap (block_in p) (sym (add-zero s)))
      (walk_entries_lem n (suc s) ∙ joined_same n _ _ (λ i h. ap (block_in p) (omega arith)))
      ∙ sym (joined_front n (λ i. block_in p (s + i)))

  -- From the start state they are the plan's trace.
  walk_trace : walk_entries (walk_of p.d (start_order p) (start_signs p.d)) p.bits 0 p.l ≡ entries_in p
  unfolding entries_in order_in signs_in order_after signs_after
  walk_trace = walk_entries_lem p.l 0 ∙ joined_same p.l _ (block_in p) (λ i h. ap (block_in p) (zero-add i))

  module _ {w : Walk} (starts : w ≡ walk_of p.d (start_order p) (start_signs p.d)) where
    -- With its buffers' lengths right, the whole trace can be written ..
    pub can_trace : {out : List ℕ} → length p.bits ≡ bits_length p.d p.l → length out ≡ trace_length p.d p.l
        → CanTrace w p.bits 0 p.l out
    unfolding walk_of bits_length bytes_for trace_length
    can_trace b o = rw starts record {
      ready = ready_start p ok;
      forward = omega arith;
      last = ok.l_high;
      bits = omega arith;
      room =
          o ∙ mul_assoc p.l (p.d + 1) (p.d + 2)
          ∙ ap (λ l. l * ((p.d + 1) * (p.d + 2))) (sym (sub-zero p.l));
    }

    -- .. and it is the plan's.
    pub traced_in : {out : List ℕ} {m n : ℕ} → TraceLeft (walk_entries w p.bits 0 (p.l - 0)) out m n
        → (out ≡ trace_bytes (entries_in p)) × (m ≡ doublings (entries_in p)) × (n ≡ addition_count (entries_in p))
    traced_in t =
        let e = ap₂ (λ v l. walk_entries v p.bits 0 l) starts (sub-zero p.l) ∙ walk_trace in
        (t.bytes ∙ ap trace_bytes e, t.doubled ∙ ap doublings e, t.added ∙ ap addition_count e)
