-- `write_file` meets its contract: what the three copies and the cleared byte leave is the plan's file (`laid`).
-- Assumes nothing.
use Rattle.std.proofs.Common.{rules, arith, ◌∙◌}
use Rattle.planfile.proofs.Laid.{sizes, laid}
use Rattle.loose.specs.PlanOf.{plan_of}
use Rattle.planfile.proofs.packing.write_file.Goals as goal

pub trailer_of-requires : goal.trailer_of-requires
trailer_of-requires c =
    let s = sizes (plan_of c.args.plan.now) c.args.file.now c.requires in (omega arith, (omega arith, (omega arith, omega arith)))

pub returns : goal.returns
returns c =
    laid (plan_of c.args.plan.now) c.args.file.now c.requires (search rules) c.copy.ensures c.copy-2.ensures
    c.cleared.ensures (c.copy_from_slice.ensures.after ∙ c.trailer_of.ensures)
