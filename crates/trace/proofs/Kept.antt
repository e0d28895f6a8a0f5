-- Trace's promise is kept on refusal and on accepted input, whose walk can be traced.
-- Assumes nothing.
use Rattle.std.proofs.Common.{◌≡◌, ◌≤◌, ◌-◌, ℕ, List, sym, ◌∙◌}
use Rattle.ladder.specs.Matrix.{OrderOk}
use Rattle.ladder.specs.Plan.{Plan, start_order}
use Rattle.ladder.specs.Refusals.{trace_refusal}
use Rattle.ladder.specs.Walk.{Walk}
use Rattle.ladder.proofs.Operations.{TraceOk, trace_none}
use Rattle.refusal.specs.declared.Refusal.{Refusal}
use Rattle.refusal.specs.Answers.{number}
use Rattle.refusal.proofs.Laws.{refused, accepted}
use Rattle.judge.proofs.Starting.{start_of, can_start}
use Rattle.trace.specs.declared.steps.Traced.{Traced}
use Rattle.trace.specs.Inner.{walk_entries, CanTrace, TraceLeft}
use Rattle.trace.specs.Promise.{TracePromise, no_trace}
use Rattle.trace.proofs.PlanTrace.{can_trace, traced_in}

module _ (p : Plan) (out : List ℕ) where
  -- What refuses counts nothing, and leaves the buffer as it came ..
  pub kept_refused : (e : Refusal) → number e ≡ trace_refusal p out → TracePromise p out (number e) no_trace out
  kept_refused e judged = record {
    refusal_is = judged;
    doublings_are = refused e _ _;
    additions_are = refused e _ _;
    trace_is = refused e _ _;
  }

  module _ (judged : 0 ≡ trace_refusal p out) where
    -- .. else the plan is accepted, and every buffer has its length ..
    asked : TraceOk p out
    asked = (trace_none p out).0 (sym judged)

    -- .. so its walk can start ..
    pub starts : (p.d ≤ 8) × OrderOk p.d p.start
    starts = can_start p asked.plan.plan

    module _ (w : Walk) (begun : w ≡ start_of p) where
      -- .. can be traced ..
      pub traceable : CanTrace w p.bits 0 p.l out
      unfolding start_order
      traceable = can_trace p asked.plan.plan begun asked.plan.bits asked.trace_long

      -- .. and its trace is the plan's.
      pub kept_accepted : (r : Traced) (outAfter : List ℕ) → TraceLeft (walk_entries w p.bits 0 (p.l - 0)) outAfter r.doublings r.additions
          → TracePromise p out 0 r outAfter
      unfolding start_order
      kept_accepted r outAfter left =
          let traced = traced_in p asked.plan.plan begun left in
          record {
            refusal_is = judged;
            doublings_are = traced.1 ∙ accepted _ _;
            additions_are = traced.2 ∙ accepted _ _;
            trace_is = traced.0 ∙ accepted _ _;
          }
