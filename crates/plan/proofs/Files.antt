-- Two accepted files with the same numbers, start order and plan bits decode alike, trace alike and run alike: from the promises alone.
-- Assumes nothing.
use Prim.Native.Nat.{ℕ, pred, ◌*◌, ◌<◌}
use mathlib.Core.Path.{◌≡◌, sym, ap, ap₂, subst, ◌∙◌}
use mathlib.Core.List.{List, map}
use native.Mathlib.Omega.{arith}
use lib.ListN.{get_or, take, drop}
use Rattle.ladder.specs.Numbers.{bit_at, value_words, values_length, trace_length, elements_length, registers_length, words_of_all}
use Rattle.ladder.specs.Plan.{Plan, last_matrix, matrix_in, values_in}
use Rattle.ladder.specs.PlanFile.{plan_in}
use Rattle.ladder.specs.Trace.{trace_bytes, doublings, addition_count}
use Rattle.ladder.specs.Registers.{combination, difference_registers, answer_register}
use Rattle.ladder.specs.Refusals.{◌then◌, refusing, shape, too_large, element, read_refusal, plan_refusal, plan_shape, loose_refusal, decode_refusal, trace_refusal, run_refusal}
use Rattle.ladder.proofs.Refusals.{accept_read}
use Rattle.ladder.proofs.SamePlan.{SamePlan, same_matrix, same_answer, same_trace, same-difference}
use Rattle.ladder.proofs.Operations.{UnpackOk}
use Rattle.ladder.proofs.AcceptedFiles.{held_shape}
use Rattle.decode.specs.Promise.{DecodePromise}
use Rattle.decode.proofs.Unique.{decode_unique}
use Rattle.trace.specs.Promise.{TracePromise}
use Rattle.trace.specs.declared.steps.Traced.{Traced}
use Rattle.trace.proofs.Unique.{trace_unique}
use Rattle.run.specs.Promise.{RunPromise, PlainPromise, DifferencePromise}
use Rattle.run.specs.declared.answer.Ran.{Ran}
use Rattle.run.proofs.Unique.{plain_unique, difference_unique}
use Rattle.planfile.specs.declared.unpacking.Unpacked.{Unpacked}
use Rattle.planfile.specs.Promise.{UnpackPromise, BodyPromise}
use Rattle.planfile.proofs.Promised.{unpack_accepts, unpack_accepted, body_accepted}

-- ---- two plans that say the same, in buffers of the same shape

last_same : (p q : Plan) → SamePlan p q → last_matrix p ≡ last_matrix q
unfolding last_matrix
last_same p q e = same_matrix p q e p.l (omega arith) ∙ ap (matrix_in q) e.l

module _ {p q : Plan} (e : SamePlan p q) (shapes : plan_shape p ≡ plan_shape q) (reads : read_refusal p ≡ read_refusal q) where
  -- They are refused alike, whatever else is lent ..
  refused_alike : (others : ℕ → ℕ → ℕ) → loose_refusal p (others p.d p.l) ≡ loose_refusal q (others q.d q.l)
  unfolding loose_refusal plan_refusal
  refused_alike others = rw (shapes, reads, e.d, e.l)

  run_refused_alike : (m : ℕ) (elements registers : List ℕ) → run_refusal p m elements registers ≡ run_refusal q m elements registers
  unfolding run_refusal
  run_refused_alike m elements registers =
      ap (λ n. n then too_large m then element m elements)
      (refused_alike (λ d l. shape elements (elements_length d) then shape registers (registers_length d)))

  -- .. so what one promises the other does: of decode ..
  decode_moved : {values : List ℕ} {r : ℕ} {valuesAfter : List ℕ} → DecodePromise q values r valuesAfter → DecodePromise p values r valuesAfter
  unfolding decode_refusal values_in
  decode_moved {values} {r} x = record {
    refusal_is = x.refusal_is ∙ sym (refused_alike (λ d l. shape values (values_length d l)));
    values_are = x.values_are ∙ ap (refusing r values) (sym (ap₂ (λ l row. words_of_all (value_words l) row) e.l (same_answer p q e)));
  }

  -- .. of trace ..
  trace_moved : {trace : List ℕ} {n : ℕ} {r : Traced} {traceAfter : List ℕ} → TracePromise q trace n r traceAfter → TracePromise p trace n r traceAfter
  unfolding trace_refusal
  trace_moved {trace} {n} x =
      let same = sym (same_trace p q e) in
      record {
        refusal_is = x.refusal_is ∙ sym (refused_alike (λ d l. shape trace (trace_length d l)));
        doublings_are = x.doublings_are ∙ ap (λ es. refusing n 0 (doublings es)) same;
        additions_are = x.additions_are ∙ ap (λ es. refusing n 0 (addition_count es)) same;
        trace_is = x.trace_is ∙ ap (λ es. refusing n trace (trace_bytes es)) same;
      }

  -- .. and of a run.
  run_moved : {number number' : ℕ} {registers wanted wanted' : List ℕ} {refusal : ℕ} {r : Ran} {registers_after : List ℕ} → number ≡ number' → wanted ≡ wanted'
      → RunPromise q number' registers wanted' refusal r registers_after → RunPromise p number registers wanted refusal r registers_after
  unfolding answer_register
  run_moved {registers = registers} {refusal = refusal} n w x =
      let same = sym (same_trace p q e) in
      record {
        refusal_is = x.refusal_is ∙ sym n;
        answer_is = x.answer_is ∙ ap₂ (λ i regs. refusing refusal 0 (get_or regs (pred i) 0)) (sym e.answer) (sym w);
        doublings_are = x.doublings_are ∙ ap (λ es. refusing refusal 0 (doublings es)) same;
        additions_are = x.additions_are ∙ ap (λ es. refusing refusal 0 (addition_count es)) same;
        registers_are = x.registers_are ∙ ap (refusing refusal registers) (sym w);
      }

-- ---- two files

module _ {f g : List ℕ} {u v : Unpacked} {m n : ℕ} (answered : UnpackPromise f m u) (answered' : UnpackPromise g n v) (none : m ≡ 0) (alike : m ≡ n) (same : u ≡ v)
    {place place' partPlace partPlace' : ℕ × ℕ} {part part' : List ℕ}
    (body : BodyPromise f place part partPlace) (body' : BodyPromise g place' part' partPlace')
    (starts : take u.d part ≡ take u.d part')
    (bits : (n : ℕ) → n < u.l * u.d → bit_at (drop u.d part) n ≡ bit_at (drop u.d part') n) where
  asked : UnpackOk f
  asked = (unpack_accepts answered).0 none

  asked' : UnpackOk g
  asked' = (unpack_accepts answered').0 (sym alike ∙ none)

  -- They hold the same plan ..
  pub files_plan : SamePlan (plan_in f) (plan_in g)
  unfolding plan_in
  files_plan =
      let here = unpack_accepted answered asked in
      let there = unpack_accepted answered' asked' in
      let d = sym here.1 ∙ ap (λ w. w.d) same ∙ there.1 in
      let l = sym here.2 ∙ ap (λ w. w.l) same ∙ there.2 in
      let part-f = (body_accepted body asked).0 in
      let part-g = (body_accepted body' asked').0 in
      record {
        d = d;
        l = l;
        start = ap₂ take (sym here.1) (sym part-f) ∙ starts ∙ ap₂ take (here.1 ∙ d) part-g;
        bits = λ n h.
            ap₂ (λ k b. bit_at (drop k b) n) (sym here.1) (sym part-f)
            ∙ bits n (subst (λ m. n < m) (ap₂ (λ a b. a * b) (sym here.2) (sym here.1)) h)
            ∙ ap₂ (λ k b. bit_at (drop k b) n) (here.1 ∙ d) part-g;
        answer = sym here.3 ∙ ap (λ w. w.row) same ∙ there.3;
      }

  shapes : plan_shape (plan_in f) ≡ plan_shape (plan_in g)
  shapes = held_shape f asked ∙ sym (held_shape g asked')

  reads : read_refusal (plan_in f) ≡ read_refusal (plan_in g)
  reads = accept_read (plan_in f) asked.plan ∙ sym (accept_read (plan_in g) asked'.plan)

  -- .. so decode answers and writes the same ..
  pub files_decode : {values : List ℕ} {r s : ℕ} {valuesAfter valuesOther : List ℕ} → DecodePromise (plan_in f) values r valuesAfter
      → DecodePromise (plan_in g) values s valuesOther → (r ≡ s) × (valuesAfter ≡ valuesOther)
  files_decode x y = decode_unique x (decode_moved files_plan shapes reads y)

  -- .. trace does ..
  pub files_trace : {trace : List ℕ} {j k : ℕ} {r s : Traced} {traceAfter traceOther : List ℕ} → TracePromise (plan_in f) trace j r traceAfter
      → TracePromise (plan_in g) trace k s traceOther → (j ≡ k) × (r ≡ s) × (traceAfter ≡ traceOther)
  files_trace x y = trace_unique x (trace_moved files_plan shapes reads y)

  -- .. the plain run does ..
  pub files_plain : (m : ℕ) (elements : List ℕ) {registers : List ℕ} {j k : ℕ} {r s : Ran} {registers_after registersOther : List ℕ}
      → PlainPromise (plan_in f) m elements registers j r registers_after → PlainPromise (plan_in g) m elements registers k s registersOther
      → (j ≡ k) × (r ≡ s) × (registers_after ≡ registersOther)
  files_plain m elements {registers} x y =
      plain_unique m elements x
      (run_moved files_plan shapes reads (run_refused_alike files_plan shapes reads m elements registers)
      (ap (map (combination m elements)) (last_same (plan_in f) (plan_in g) files_plan)) y)

  -- .. and the difference run does.
  pub files_difference : (m : ℕ) (elements : List ℕ) {registers : List ℕ} {j k : ℕ} {r s : Ran} {registers_after registersOther : List ℕ}
      → DifferencePromise (plan_in f) m elements registers j r registers_after → DifferencePromise (plan_in g) m elements registers k s registersOther
      → (j ≡ k) × (r ≡ s) × (registers_after ≡ registersOther)
  files_difference m elements {registers} x y =
      difference_unique m elements x
      (run_moved files_plan shapes reads (run_refused_alike files_plan shapes reads m elements registers)
      (same-difference (plan_in f) (plan_in g) files_plan m elements (plan_in f).l (omega arith) ∙ ap (difference_registers (plan_in g) m elements) files_plan.l) y)
