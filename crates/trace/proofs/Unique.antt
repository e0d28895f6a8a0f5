-- No second answer fits trace's promise: from the promise alone.
-- Assumes nothing.
use Prim.Native.Nat.{ℕ}
use mathlib.Core.Path.{◌≡◌, sym, ap₂, ◌∙◌}
use mathlib.Core.List.{List}
use Rattle.ladder.specs.Plan.{Plan}
use Rattle.ladder.proofs.Tests.{refusing-same}
use Rattle.trace.specs.declared.steps.Traced.{Traced}
use Rattle.trace.specs.Promise.{TracePromise}

-- Two refusals with two answers and two outputs that trace could give and leave on the same input are equal.
pub trace_unique : {p : Plan} {out : List ℕ} {m n : ℕ} {r s : Traced} {outAfter outOther : List ℕ}
    → TracePromise p out m r outAfter → TracePromise p out n s outOther → (m ≡ n) × (r ≡ s) × (outAfter ≡ outOther)
trace_unique x y =
    let same = x.refusal_is ∙ sym y.refusal_is in (
      same,
      ap₂ (λ doubled added. record { doublings = doubled; additions = added })
          (refusing-same _ _ same x.doublings_are y.doublings_are)
          (refusing-same _ _ same x.additions_are y.additions_are),
      refusing-same _ _ same x.trace_is y.trace_is,
    )
