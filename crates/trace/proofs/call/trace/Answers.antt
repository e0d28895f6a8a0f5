-- `trace` keeps its promise, on refusal (`kept_refused`) and on accepted input (`kept_accepted`), whose walk can start (`starts`, which the
-- function names) and be traced.
-- Assumes nothing.
use Rattle.std.proofs.Common.{arith}
use Rattle.loose.specs.PlanOf.{plan_of}
use Rattle.trace.proofs.Kept.{kept_refused, traceable, kept_accepted}
use Rattle.trace.proofs.call.trace.Goals as goal

pub returns-in_err-trace_refusal : goal.returns-in_err-trace_refusal
returns-in_err-trace_refusal c =
    let kept = kept_refused (plan_of c.args.plan.now) c.args.out.now _ c.in_err-trace_refusal.ensures in
    grind arith

pub trace_steps-requires : goal.trace_steps-requires
trace_steps-requires c = traceable (plan_of c.args.plan.now) _ c.in_ok-trace_refusal.ensures _ c.start_walk-start.ensures

pub returns : goal.returns
returns c =
    kept_accepted (plan_of c.args.plan.now) _ c.in_ok-trace_refusal.ensures _ c.start_walk-start.ensures _ _ c.trace_steps.ensures
