-- A difference run that is not refused can be made, and the registers that it ends in are those that its own rule defines.
-- Assumes nothing.
use Rattle.std.proofs.Common.{◌≡◌, ℕ, suc, pred, ◌^◌, ◌<◌, List, map, get_or, take, sym, ap, ◌∙◌, subst}
use Rattle.ladder.specs.Matrix.{start_signs}
use Rattle.ladder.specs.Numbers.{elements_length, bits_at}
use Rattle.ladder.specs.Plan.{Plan, start_order}
use Rattle.ladder.specs.Registers.{difference_rule, registers_after, difference_registers}
use Rattle.ladder.specs.Walk.{Walk, walk_of, order_of}
use Rattle.ladder.proofs.Operations.{RunOk}
use Rattle.ladder.proofs.Walk.{order_of_walk}
use Rattle.bits.proofs.PlanWalk.{ready_start}
use Rattle.judge.proofs.Starting.{can_start}
use Rattle.registers.specs.Inner.{Begun}
use Rattle.registers.proofs.Ran.{elements_of, first_below}
use Rattle.difference.specs.Inner.{DifferenceSteps, FromStart}

-- What the steps ask of a walk that is at a start, and the registers that they leave, by the start order.
module _ {m d l : ℕ} {start bytes elements first : List ℕ} (asks : FromStart m d l start bytes elements first)
    {w : Walk} (e : w ≡ walk_of d (map pred start) (start_signs d)) where
  pub at_start : DifferenceSteps m w l bytes elements first
  at_start = subst (λ v. DifferenceSteps m v l bytes elements first) (sym e) asks.steps

  pub from_start : (end : List ℕ)
      → take (suc w.d) end ≡ registers_after (difference_rule m elements) w.d (order_of w) (bits_at w.d bytes) (take (suc w.d) first) l
      → take (suc d) end ≡ registers_after (difference_rule m elements) d (map pred start) (bits_at d bytes) (take (suc d) first) l
  unfolding walk_of
  from_start end ran =
      subst
      (λ v. take (suc v.d) end ≡ registers_after (difference_rule m elements) v.d (order_of v) (bits_at v.d bytes) (take (suc v.d) first) l)
      e ran
      ∙ ap (λ S. registers_after (difference_rule m elements) d S (bits_at d bytes) (take (suc d) first) l)
      (order_of_walk d (map pred start) (start_signs d) asks.order.columns.long)

module _ {p : Plan} {m : ℕ} {elements registers : List ℕ} (ok : RunOk p m elements registers)
    (words : (i : ℕ) → get_or elements i 0 < 2 ^ 64) {first : List ℕ} (begun : Begun p m elements first) where
  -- The steps of a plan can be made from the start of its walk ..
  pub steps_ask : FromStart m p.d p.l p.start p.bits elements first
  unfolding walk_of elements_length start_order
  steps_ask =
      let can = can_start p ok.plan.plan in
      record {
        d_high = can.0;
        order = can.1;
        steps = record {
          ready = ready_start p ok.plan.plan;
          begun = ap (λ S. walk_of p.d S (start_signs p.d)) (sym (order_of_walk p.d (map pred p.start) (start_signs p.d) can.1.columns.long));
          l_high = ok.plan.plan.l_high;
          bits = ok.plan.bits;
          long = ok.elements_long;
          below = elements_of ok words;
          registers = first_below begun;
        };
      }

  -- .. and end in the registers that its own rule defines.
  pub ends_in : registers_after (difference_rule m elements) p.d (map pred p.start) (bits_at p.d p.bits) (take (suc p.d) first) p.l
      ≡ difference_registers p m elements p.l
  unfolding difference_registers start_order
  ends_in = ap (λ s. registers_after (difference_rule m elements) p.d (map pred p.start) (bits_at p.d p.bits) s p.l) begun.begun
