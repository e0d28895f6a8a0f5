-- `step_line` meets its contract: the step's number, its bits as the one field and the newline make the line (`step_line_is`).
-- Assumes nothing.
use native.Mathlib.Omega.{arith}
use Rattle.loose.specs.PlanOf.{plan_of}
use Rattle.text.proofs.PlanLines.{step_within}
use Rattle.text.proofs.lines.Lines.step_line.Goals as goal

pub overflow_add-s : goal.overflow_add-s
overflow_add-s c = omega (arith, (step_within (plan_of c.args.plan.now) c.requires.0 c.args.s c.requires.1.0).1.0)
