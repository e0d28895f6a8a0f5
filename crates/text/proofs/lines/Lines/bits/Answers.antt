-- `bits` meets its contract. The plan is not refused, so its bits are there (`step_within`); each is 0 or 1 (`bit_below`).
-- Assumes nothing.
use native.Mathlib.Omega.{arith}
use borrow.Author.Rules.{rules}
use Rattle.bits.proofs.StepBits.{bit_below}
use Rattle.loose.specs.PlanOf.{plan_of}
use Rattle.text.proofs.PlanLines.{plan_ok, step_within}
use Rattle.text.proofs.lines.Lines.bits.Goals as goal

pub step_bits-r-requires : goal.step_bits-r-requires
step_bits-r-requires c = step_within (plan_of c.args.plan.now) c.requires.0 c.args.s c.requires.1.0

pub bit-requires : goal.bit-requires
bit-requires c = (search rules, (plan_ok (plan_of c.args.plan.now) c.requires.0).plan.d_high)

pub character-requires : goal.character-requires
character-requires c = omega (arith, c.bit.ensures, bit_below c.args.plan.now.d c.step_bits-r.result c.loop-k.k)
