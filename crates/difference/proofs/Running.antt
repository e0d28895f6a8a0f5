-- The difference run under way: the walk state after the steps taken, and the registers that the rule has after them.
-- Assumes nothing.
use Rattle.std.proofs.Common.{◌≡◌, ℕ, suc, pred, ◌+◌, ◌*◌, ◌<◌, ◌≤◌, List, map, length, take, sym, refl, ap, ◌∙◌, subst, ap₂, add-one, arith, length-take-le, get_or-take}
use Rattle.ladder.proofs.Bits.{length-bits_at, bits_room}
use Rattle.ladder.specs.Matrix.{Arrangement, signs_of, matrix_after, order_after, signs_after}
use Rattle.ladder.specs.Numbers.{bits_at}
use Rattle.ladder.specs.Registers.{step_registers, difference_rule, registers_after}
use Rattle.ladder.specs.Trace.{Entry, block}
use Rattle.ladder.specs.Walk.{Walk, bits_of, walk_of, order_of, walk_signs, step_walk}
use Rattle.ladder.proofs.Ladder.{signs_after_lem, state_after}
use Rattle.ladder.proofs.Walk.{order_of_walk, signs_of_walk, length-order_after, length-signs_after}
use Rattle.bits.specs.Ready.{Ready}
use Rattle.bits.specs.ReadBits.{ReadBits}
use Rattle.bits.specs.WalkBlock.{walk_block}
use Rattle.bits.proofs.Stepping.{ready_step, walk_on}
use Rattle.bits.proofs.WalkBlock.{walk_block_lem}
use Rattle.registers.specs.Inner.{Elements}
use Rattle.difference.specs.Inner.{DifferenceStep, DifferenceSteps, difference_of}
use Rattle.difference.proofs.Differences.{block_registers, registers_below}

-- Before step s of l.
pub record DifferenceRunning (m : ℕ) (w₀ : Walk) (l : ℕ) (bytes elements start : List ℕ) (w : Walk) (regs : List ℕ) (s : ℕ) : Type 0 where
  pub within : s ≤ l
  pub nine : length regs ≡ 9
  pub ready : Ready w
  pub walk : w
      ≡ walk_of w₀.d (order_after (order_of w₀) (bits_at w₀.d bytes) s) (signs_after w₀.d (order_of w₀) (bits_at w₀.d bytes) s)
  pub below : Elements m (suc w₀.d) regs
  pub registers : take (suc w₀.d) regs
      ≡ registers_after (difference_rule m elements) w₀.d (order_of w₀) (bits_at w₀.d bytes) (take (suc w₀.d) start) s

module _ {m : ℕ} {w₀ : Walk} {l : ℕ} {bytes elements start : List ℕ} (asks : DifferenceSteps m w₀ l bytes elements start) where
  abbrev d : ℕ
  d = w₀.d

  abbrev S : List ℕ
  S = order_of w₀

  abbrev r : ℕ → List ℕ
  r = bits_at w₀.d bytes

  arranged : Arrangement d S
  unfolding order_of
  arranged = asks.ready.order.columns

  pub running_start : length start ≡ 9 → DifferenceRunning m w₀ l bytes elements start w₀ start 0
  unfolding order_after signs_after registers_after
  running_start nine = record {
    within = omega arith;
    nine = nine;
    ready = asks.ready;
    walk = asks.begun;
    below = asks.registers;
    registers = refl;
  }

  module _ {w : Walk} {regs : List ℕ} {s : ℕ} (t : DifferenceRunning m w₀ l bytes elements start w regs s) where
    -- The walk's dimension stays.
    width : w.d ≡ d
    unfolding walk_of
    width = ap (λ v. v.d) t.walk

    -- The bits of the step are there.
    pub bits_there : s < l → (d ≤ 8) × ((s < 576) × (s * d + d ≤ 8 * length bytes))
    bits_there h = (asks.ready.high, (omega (arith, asks.l_high), bits_room d l s (length bytes) h asks.bits))

    -- What the step asks of the first d + 1 of nine registers.
    pub step_asks : DifferenceStep m w elements (take (d + 1) regs)
    step_asks = rw (add-one d) record {
      ready = t.ready;
      long = asks.long ∙ sym width;
      below = subst (λ i. Elements m i elements) (sym width) asks.below;
      rows = length-take-le (suc d) regs (omega (arith, asks.ready.high, t.nine)) ∙ ap suc (sym width);
      registers = subst (λ i. Elements m (suc i) (take (suc d) regs)) (sym width) (λ i h. rw (get_or-take (suc d) regs i 0 h) (t.below i h));
    }

    module _ (n : ℕ) (next : Walk) (e : next ≡ step_walk w n) where
      -- The step's entries, by the arrays before and after it.
      abbrev entries : List Entry
      entries = walk_block d (take d w.signs) (map pred (take d next.order)) (bits_of d n)

      module _ (b : ReadBits d s bytes n) where
        -- The walk state after one step more.
        walk_next : next ≡ walk_of d (order_after S r (suc s)) (signs_after d S r (suc s))
        walk_next = e ∙ ap (λ v. step_walk v n) t.walk ∙ walk_on d S bytes s n arranged.long b

        -- The step's entries are those that the matrix before it has.
        step_block : entries ≡ block d (matrix_after d S r s) (r s)
        unfolding order_after order_of walk_signs walk_of
        step_block =
            let before : take d w.signs ≡ signs_of d (matrix_after d S r s) =
            ap (λ v. take d v.signs) t.walk
            ∙ signs_of_walk d (order_after S r s) (signs_after d S r s) (length-signs_after d S r s)
            ∙ sym (signs_after_lem arranged r (length-bits_at d bytes) s) in
            let after : map pred (take d next.order) ≡ order_after S r (suc s) =
            ap (λ v. map pred (take d v.order)) walk_next
            ∙ order_of_walk d (order_after S r (suc s)) (signs_after d S r (suc s))
            (length-order_after d S r arranged.long (length-bits_at d bytes) (suc s)) in
            ap₂ (λ σ T. walk_block d σ T (bits_of d n)) before after
            ∙ ap (walk_block d (signs_of d (matrix_after d S r s)) (order_after S r (suc s))) b.bits
            ∙ walk_block_lem (state_after arranged r (length-bits_at d bytes) s) (r s) (length-bits_at d bytes s)

        -- One step more, with its registers.
        running_more : s < l → (new : List ℕ) → length new ≡ 9
            → take (suc d) new ≡ map (difference_of m elements (take (suc d) regs)) entries
            → DifferenceRunning m w₀ l bytes elements start next new (s + 1)
        unfolding registers_after
        running_more h new nine f = rw (add-one s) record {
          within = h;
          nine = nine;
          ready = subst Ready (sym e) (ready_step t.ready n);
          walk = walk_next;
          below = λ i q.
              rw (sym (get_or-take (suc d) new i 0 q), f) (registers_below m elements (take (suc d) regs) entries i);
          registers =
              f ∙ ap (map (difference_of m elements (take (suc d) regs))) step_block
              ∙ block_registers m elements d (matrix_after d S r s) (take (suc d) regs) (r s)
              ∙ ap (λ q. step_registers (difference_rule m elements) d (matrix_after d S r s) q (r s)) t.registers;
        }

        pub running_next : s < l → (new : List ℕ) → length new ≡ 9
            → take (suc w.d) new
            ≡ map (difference_of m elements (take (d + 1) regs))
            (walk_block w.d (take w.d w.signs) (map pred (take w.d next.order)) (bits_of w.d n))
            → DifferenceRunning m w₀ l bytes elements start next new (s + 1)
        running_next h new nine f =
            running_more h new nine
            (subst
            (λ i. take (suc i) new
            ≡ map (difference_of m elements (take (suc d) regs))
            (walk_block i (take i w.signs) (map pred (take i next.order)) (bits_of i n)))
            width (rw (add-one d) at f))

    -- No step left.
    pub running_end : l ≤ s
        → take (suc d) regs ≡ registers_after (difference_rule m elements) d S r (take (suc d) start) l
    running_end h =
        t.registers
        ∙ ap (registers_after (difference_rule m elements) d S r (take (suc d) start)) (omega (arith, t.within))
