-- A plain run that is not refused can be made, and the registers that it ends in are the rows' combinations.
-- Assumes nothing.
use Rattle.std.proofs.Common.{◌≡◌, ℕ, suc, List, map, take, ap, ◌∙◌, arith, length-take-le, get_or-take}
use Rattle.ladder.specs.Numbers.{bits_at}
use Rattle.ladder.specs.Plan.{Plan, start_order, last_matrix}
use Rattle.ladder.specs.Registers.{combination, plain_rule, registers_after, plain_registers}
use Rattle.ladder.proofs.Operations.{PlanOk}
use Rattle.ladder.proofs.Demand2.{registers_in}
use Rattle.registers.specs.Inner.{Begun}
use Rattle.registers.proofs.Ran.{first_below}
use Rattle.plain.specs.Inner.{PlainSteps}

module _ {p : Plan} (ok : PlanOk p) {m : ℕ} {elements first : List ℕ} (begun : Begun p m elements first) where
  -- The steps can be made from the start registers ..
  pub steps_ask : PlainSteps m p.d p.l p.bits (take (suc p.d) first)
  steps_ask = record {
    step = record {
      d_high = ok.plan.d_high;
      rows = length-take-le (suc p.d) first (omega (arith, ok.plan.d_high, begun.nine));
      below = λ i h. rw (get_or-take (suc p.d) first i 0 h) (first_below begun i h);
    };
    l_high = ok.plan.l_high;
    bits = ok.bits;
  }

  -- .. and end in the plan's registers, which are the rows' combinations.
  pub ends_in : registers_after (plain_rule m) p.d (start_order p) (bits_at p.d p.bits) (take (suc p.d) first) p.l
      ≡ map (combination m elements) (last_matrix p)
  unfolding last_matrix plain_registers
  ends_in =
      ap (λ s. registers_after (plain_rule m) p.d (start_order p) (bits_at p.d p.bits) s p.l) begun.begun
      ∙ registers_in p ok.plan m elements p.l
