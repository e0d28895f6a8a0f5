-- What follows from trace's promise alone, for a crate above to cite.
-- Assumes nothing.
use Prim.Native.Nat.{ℕ, ◌*◌}
use mathlib.Core.Path.{◌≡◌, sym, subst, ◌∙◌}
use mathlib.Core.Logic.{◌≢◌, ◌↔◌}
use mathlib.Core.List.{List}
use Rattle.ladder.specs.Plan.{Plan}
use Rattle.ladder.specs.Trace.{entries_in, trace_bytes}
use Rattle.ladder.proofs.Tests.{refusing_no, refusing_yes}
use Rattle.ladder.proofs.Operations.{TraceOk, trace_none}
use Rattle.ladder.proofs.Trace.{trace_doublings, trace_additions}
use Rattle.trace.specs.declared.steps.Traced.{Traced}
use Rattle.trace.specs.Promise.{TracePromise}

module _ {p : Plan} {out : List ℕ} {refusal : ℕ} {r : Traced} {outAfter : List ℕ} (promise : TracePromise p out refusal r outAfter) where
  -- Trace's refusal is 0 exactly where the plan and the buffers are what it asks ..
  pub trace_accepts : refusal ≡ 0 ↔ TraceOk p out
  trace_accepts = subst (λ n. n ≡ 0 ↔ TraceOk p out) (sym promise.refusal_is) (trace_none p out)

  -- .. then the refusal is 0, and every entry is written ..
  pub trace_accepted : TraceOk p out → (refusal ≡ 0) × (outAfter ≡ trace_bytes (entries_in p))
  trace_accepted ok =
      let none = trace_accepts.1 ok in
      (none, promise.trace_is ∙ refusing_no _ _ _ none)

  -- .. l doublings and l * d additions ..
  pub trace_counts : TraceOk p out → (r.doublings ≡ p.l) × (r.additions ≡ p.l * p.d)
  trace_counts ok =
      let none = trace_accepts.1 ok in (
        promise.doublings_are ∙ refusing_no _ _ _ none ∙ trace_doublings p,
        promise.additions_are ∙ refusing_no _ _ _ none ∙ trace_additions p,
      )

  -- .. and on refusal nothing is written or counted.
  pub trace_refused : refusal ≢ 0 → (r.doublings ≡ 0) × (r.additions ≡ 0) × (outAfter ≡ out)
  trace_refused some = (
    promise.doublings_are ∙ refusing_yes _ _ _ some,
    promise.additions_are ∙ refusing_yes _ _ _ some,
    promise.trace_is ∙ refusing_yes _ _ _ some,
  )
