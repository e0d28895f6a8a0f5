-- What a run answers beside what trace and decode do: from the promises alone.
-- Assumes nothing.
use Prim.Native.Nat.{ℕ}
use mathlib.Core.Path.{◌≡◌, sym, ap, ◌∙◌}
use mathlib.Core.List.{List}
use lib.ListN.{length}
use Rattle.ladder.specs.Numbers.{numbers_of, value_words, values_length, trace_length}
use Rattle.ladder.specs.Plan.{Plan}
use Rattle.ladder.specs.Registers.{combination}
use Rattle.ladder.proofs.Operations.{RunOk}
use Rattle.ladder.proofs.Demand2.{decode_words}
use Rattle.decode.specs.Promise.{DecodePromise}
use Rattle.decode.proofs.Promised.{decode_accepted}
use Rattle.trace.specs.Promise.{TracePromise}
use Rattle.trace.specs.declared.steps.Traced.{Traced}
use Rattle.trace.proofs.Promised.{trace_counts}
use Rattle.run.specs.Promise.{PlainPromise}
use Rattle.run.specs.declared.answer.Ran.{Ran}
use Rattle.run.proofs.Promised.{run_accepted, run_answer, run_counts}

-- Of the plain run; of the difference run by `difference_is_plain`.
module _ (m : ℕ) (elements : List ℕ) {p : Plan} {registers : List ℕ} {refusal : ℕ} {r : Ran} {registers_after : List ℕ}
    (promise : PlainPromise p m elements registers refusal r registers_after) (ok : RunOk p m elements registers) where
  -- The counts are those that trace answers ..
  pub run_traced : {trace : List ℕ} {n : ℕ} {t : Traced} {traceAfter : List ℕ} → TracePromise p trace n t traceAfter
      → length trace ≡ trace_length p.d p.l → (r.doublings ≡ t.doublings) × (r.additions ≡ t.additions)
  run_traced traced long =
      let counts = run_counts promise (run_accepted m elements promise ok) in
      let n = trace_counts traced (record { plan = ok.plan; trace_long = long }) in
      (counts.0 ∙ sym n.0, counts.1 ∙ sym n.1)

  -- .. and the answer is the sum of the values that decode writes times the elements, by the modulus.
  pub run_decoded : {values : List ℕ} {n : ℕ} {valuesAfter : List ℕ} → DecodePromise p values n valuesAfter
      → length values ≡ values_length p.d p.l → r.answer ≡ combination m elements (numbers_of p.d (value_words p.l) valuesAfter)
  run_decoded decoded long =
      run_answer m elements promise ok
      ∙ ap (combination m elements)
      (sym (ap (numbers_of p.d (value_words p.l)) (decode_accepted decoded (record { plan = ok.plan; values_long = long })).1
      ∙ decode_words p ok.plan.plan))
