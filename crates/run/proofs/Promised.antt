-- What follows from the promises of the runs alone, for a crate above to cite.
-- Assumes nothing.
use Prim.Native.Nat.{ℕ, ◌*◌, ◌^◌, ◌<◌}
use mathlib.Core.Path.{◌≡◌, sym, ap, subst, ◌∙◌}
use mathlib.Core.Logic.{◌≢◌, ◌↔◌}
use mathlib.Core.List.{List, map}
use lib.ListN.{get_or}
use Rattle.ladder.specs.Plan.{Plan, last_matrix, answer_row}
use Rattle.ladder.specs.Registers.{combination, difference_registers, answer_register}
use Rattle.ladder.specs.Refusals.{run_refusal}
use Rattle.ladder.proofs.Tests.{refusing_no, refusing_yes, refusing_accepted}
use Rattle.ladder.proofs.Operations.{RunOk, run_none}
use Rattle.ladder.proofs.Trace.{trace_doublings, trace_additions}
use Rattle.ladder.proofs.Demand2.{registers_in, answer_register_lem}
use Rattle.ladder.proofs.Demand3.{runs_agree_accepted}
use Rattle.run.specs.declared.answer.Ran.{Ran}
use Rattle.run.specs.Promise.{RunPromise, PlainPromise, DifferencePromise}
use Rattle.run.proofs.Unique.{plain_unique}

-- ---- any run

module _ {p : Plan} {number : ℕ} {registers wanted : List ℕ} {refusal : ℕ} {r : Ran} {registers_after : List ℕ}
    (promise : RunPromise p number registers wanted refusal r registers_after) where
  -- On refusal all answers are 0 and the registers are as they came.
  pub run_refused : refusal ≢ 0 → (r.answer ≡ 0) × (r.doublings ≡ 0) × (r.additions ≡ 0) × (registers_after ≡ registers)
  run_refused some = (
    promise.answer_is ∙ refusing_yes _ _ _ some,
    promise.doublings_are ∙ refusing_yes _ _ _ some,
    promise.additions_are ∙ refusing_yes _ _ _ some,
    promise.registers_are ∙ refusing_yes _ _ _ some,
  )

  module _ (none : refusal ≡ 0) where
    -- Else the registers are those of the run's rule ..
    pub run_registers : registers_after ≡ wanted
    run_registers = promise.registers_are ∙ refusing_no _ _ _ none

    -- .. the answer is the register of the answer row ..
    pub run_answer_register : r.answer ≡ answer_register p registers_after
    run_answer_register = promise.answer_is ∙ refusing_no _ _ _ none ∙ ap (answer_register p) (sym run_registers)

    -- .. and there are l doublings and l * d additions.
    pub run_counts : (r.doublings ≡ p.l) × (r.additions ≡ p.l * p.d)
    run_counts =
        (promise.doublings_are ∙ refusing_no _ _ _ none ∙ trace_doublings p, promise.additions_are ∙ refusing_no _ _ _ none ∙ trace_additions p)

  -- End registers that are the same where nothing is refused make the same promise.
  pub run_by : {others : List ℕ} → (number ≡ 0 → wanted ≡ others) → RunPromise p number registers others refusal r registers_after
  run_by same =
      let here : refusal ≡ 0 → wanted ≡ _ = λ z. same (sym promise.refusal_is ∙ z) in
      record {
        refusal_is = promise.refusal_is;
        answer_is = promise.answer_is ∙ refusing_accepted refusal 0 _ _ (λ z. ap (answer_register p) (here z));
        doublings_are = promise.doublings_are;
        additions_are = promise.additions_are;
        registers_are = promise.registers_are ∙ refusing_accepted refusal registers _ _ here;
      }

-- ---- the two runs are one

-- Where nothing is refused, the difference run's registers are the rows' combinations, as the plain run's are.
same_registers : (p : Plan) (m : ℕ) (elements registers : List ℕ) → ((j : ℕ) → get_or elements j 0 < 2 ^ 64)
    → run_refusal p m elements registers ≡ 0 → difference_registers p m elements p.l ≡ map (combination m elements) (last_matrix p)
unfolding last_matrix
same_registers p m elements registers words e =
    let ok = ((run_none p m elements registers).0 e).plan.plan in
    runs_agree_accepted p m elements registers e words p.l ∙ registers_in p ok m elements p.l

module _ (m : ℕ) (elements : List ℕ) {p : Plan} {registers : List ℕ} (words : (j : ℕ) → get_or elements j 0 < 2 ^ 64) where
  -- So what the difference run promises the plain run promises ..
  pub difference_is_plain : {refusal : ℕ} {r : Ran} {registers_after : List ℕ} → DifferencePromise p m elements registers refusal r registers_after
      → PlainPromise p m elements registers refusal r registers_after
  difference_is_plain x = run_by x (same_registers p m elements registers words)

  -- .. and on every input, refused or not, the two give the same answers and leave the same registers.
  pub runs_same : {j k : ℕ} {r s : Ran} {registers_after registersOther : List ℕ} → PlainPromise p m elements registers j r registers_after
      → DifferencePromise p m elements registers k s registersOther → (j ≡ k) × (r ≡ s) × (registers_after ≡ registersOther)
  runs_same x y = plain_unique m elements x (difference_is_plain y)

-- ---- the plain run, and by `difference_is_plain` the difference run

module _ (m : ℕ) (elements : List ℕ) {p : Plan} {registers : List ℕ} {refusal : ℕ} {r : Ran} {registers_after : List ℕ}
    (promise : PlainPromise p m elements registers refusal r registers_after) where
  -- The refusal is 0 exactly where the plan, the modulus, the elements and the buffers are what the run asks ..
  pub run_accepts : refusal ≡ 0 ↔ RunOk p m elements registers
  run_accepts = subst (λ n. n ≡ 0 ↔ RunOk p m elements registers) (sym promise.refusal_is) (run_none p m elements registers)

  -- .. so on accepted input it is 0 ..
  pub run_accepted : RunOk p m elements registers → refusal ≡ 0
  run_accepted = run_accepts.1

  -- .. and the answer is the combination of the elements by the answer row.
  pub run_answer : RunOk p m elements registers → r.answer ≡ combination m elements (answer_row p)
  unfolding last_matrix
  run_answer ok =
      run_answer_register promise (run_accepted ok)
      ∙ ap (answer_register p) (run_registers promise (run_accepted ok) ∙ sym (registers_in p ok.plan.plan m elements p.l))
      ∙ answer_register_lem p ok.plan.plan m elements
