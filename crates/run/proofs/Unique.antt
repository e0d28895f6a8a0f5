-- No second answer fits a run's promise: from the promise alone.
-- Assumes nothing.
use Prim.Native.Nat.{ℕ}
use mathlib.Core.Path.{◌≡◌, sym, ap, ap₂, ◌∙◌}
use mathlib.Core.List.{List}
use Rattle.ladder.specs.Plan.{Plan}
use Rattle.ladder.proofs.Tests.{refusing-same}
use Rattle.run.specs.declared.answer.Ran.{Ran}
use Rattle.run.specs.Promise.{RunPromise, PlainPromise, DifferencePromise}

-- An answer is its three numbers.
same-ran : (r s : Ran) → r.answer ≡ s.answer → r.doublings ≡ s.doublings → r.additions ≡ s.additions → r ≡ s
same-ran r s a d e =
    ap (λ i. record { answer = i; doublings = r.doublings; additions = r.additions }) a
    ∙ ap₂ (λ i j. record { answer = s.answer; doublings = i; additions = j }) d e

-- Two refusals and answers with two outputs that a run could give and leave on the same input are equal ..
pub run_unique : {p : Plan} {number : ℕ} {registers wanted : List ℕ} {m n : ℕ} {r s : Ran} {registers_after registersOther : List ℕ}
    → RunPromise p number registers wanted m r registers_after → RunPromise p number registers wanted n s registersOther
    → (m ≡ n) × (r ≡ s) × (registers_after ≡ registersOther)
run_unique {r = r} {s} x y =
    let n = x.refusal_is ∙ sym y.refusal_is in (
      n,
      same-ran r s (refusing-same _ _ n x.answer_is y.answer_is) (refusing-same _ _ n x.doublings_are y.doublings_are)
          (refusing-same _ _ n x.additions_are y.additions_are),
      refusing-same _ _ n x.registers_are y.registers_are,
    )

-- .. of the plain run ..
pub plain_unique : (m : ℕ) (elements : List ℕ) {p : Plan} {registers : List ℕ} {j k : ℕ} {r s : Ran} {registers_after registersOther : List ℕ}
    → PlainPromise p m elements registers j r registers_after → PlainPromise p m elements registers k s registersOther
    → (j ≡ k) × (r ≡ s) × (registers_after ≡ registersOther)
plain_unique m elements x y = run_unique x y

-- .. and of the difference run.
pub difference_unique : (m : ℕ) (elements : List ℕ) {p : Plan} {registers : List ℕ} {j k : ℕ} {r s : Ran} {registers_after registersOther : List ℕ}
    → DifferencePromise p m elements registers j r registers_after → DifferencePromise p m elements registers k s registersOther
    → (j ≡ k) × (r ≡ s) × (registers_after ≡ registersOther)
difference_unique m elements x y = run_unique x y
