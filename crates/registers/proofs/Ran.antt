-- A run that is not refused can begin, and what it leaves is what is promised.
-- Assumes nothing.
use Rattle.std.proofs.Common.{◌≡◌, ℕ, zero, suc, pred, ◌+◌, ◌-◌, ◌*◌, ◌%◌, ◌^◌, ◌<◌, ◌≤◌, List, [], ◌∷◌, map, length, get_or, take, sym, ap, ◌∙◌, subst, add-one, sub-one, arith, get_or-take}
use Rattle.ladder.specs.Matrix.{Arrangement}
use Rattle.ladder.specs.Numbers.{start_length, elements_length, registers_length}
use Rattle.ladder.specs.Plan.{Plan, start_order}
use Rattle.ladder.specs.Registers.{modulus, start_from, start_registers, answer_register}
use Rattle.ladder.proofs.Refusals.{Accepted, element_none, elements_below}
use Rattle.ladder.specs.Refusals.{run_refusal}
use Rattle.ladder.proofs.Bits.{bits_bound}
use Rattle.ladder.proofs.Operations.{RunOk, run_none}
use Rattle.ladder.proofs.Trace.{trace_doublings, trace_additions}
use Rattle.refusal.specs.declared.Refusal.{Refusal}
use Rattle.refusal.specs.Answers.{number}
use Rattle.refusal.proofs.Laws.{refused, accepted}
use Rattle.run.specs.Promise.{RunPromise, no_run}
use Rattle.registers.specs.Inner.{Elements, Startable, Begun}
use Rattle.registers.proofs.ByModulus.{modulus_positive, below_modulus}

-- Start registers are elements.
start_below : (m : ℕ) (es : List ℕ) (a : ℕ) (S : List ℕ) → a < modulus m → (i : ℕ) → get_or (start_from m es a S) i 0 < modulus m
unfolding start_from
start_below m es a [] h zero = h
start_below m es a [] h (suc i) = modulus_positive m
start_below m es a (j ∷ S) h zero = h
start_below m es a (j ∷ S) h (suc i) = start_below m es ((a + get_or es j 0) % modulus m) S (below_modulus m (a + get_or es j 0)) i

-- A run that refuses nothing has all that it asks ..
pub asked : {p : Plan} {m : ℕ} {elements registers : List ℕ} → run_refusal p m elements registers ≡ 0 → RunOk p m elements registers
asked none = (run_none _ _ _ _).0 none

-- .. so its numbers are in range.
pub in_bounds : (p : Plan) (m : ℕ) (elements registers : List ℕ) → 0 ≡ run_refusal p m elements registers
    → (m ≤ 2 ^ 63) × ((p.d ≤ 8) × ((p.l ≤ 576) × ((1 ≤ p.answer) × ((p.answer ≤ p.d + 1) × ((p.l * p.d ≤ 4608) × (length registers ≡ p.d + 1))))))
unfolding registers_length
in_bounds p m elements registers none =
    let ok = asked (sym none) in
    let plan = ok.plan.plan in (
      ok.modulus,
      (
        plan.d_high,
        (
          plan.l_high,
          (
            plan.answer_low,
            (omega (arith, plan.answer_high), (bits_bound p.d p.l plan.d_high plan.l_high, ok.registers_long)),
          ),
        ),
      ),
    )

module _ {p : Plan} {m : ℕ} {elements registers : List ℕ} (ok : RunOk p m elements registers)
    (words : (i : ℕ) → get_or elements i 0 < 2 ^ 64) where
  -- Elements that are not refused are below the modulus.
  pub elements_of : Elements m p.d elements
  elements_of i h = elements_below m elements ((element_none m elements).1 ok.below) words i

  -- The start registers can be made ..
  pub startable : Startable m p.start elements
  unfolding start_length elements_length start_order
  startable =
      let a = ok.plan.plan in
      let d = ok.plan.start in
      record {
        few = omega (arith, d, a.d_high);
        order = record { columns = subst (λ n. Arrangement n (map pred p.start)) (sym d) a.start; counted = a.columns };
        long = ok.elements_long ∙ sym d;
        below = λ i h. elements_below m elements ((element_none m elements).1 ok.below) words i;
      }

  -- The start registers that are made are the plan's ..
  pub begins : (first : List ℕ) → length first ≡ 9 → take (suc (length p.start)) first ≡ start_registers m elements (map pred p.start)
      → Begun p m elements first
  unfolding start_length start_order
  begins first nine begun = record { nine = nine; begun = ap (λ n. take (suc n) first) (sym ok.plan.start) ∙ begun }

-- .. and elements.
pub first_below : {p : Plan} {m : ℕ} {elements first : List ℕ} → Begun p m elements first → Elements m (suc p.d) first
unfolding start_registers
first_below {p} {m} {elements} {first} b i h =
    subst (λ n. n < modulus m)
    (ap (λ l. get_or l i 0) (sym b.begun) ∙ get_or-take (suc p.d) first i 0 h)
    (start_below m elements 0 (start_order p) (modulus_positive m) i)

-- ---- the promise of any run is kept

-- What refuses leaves the registers as they came, and answers nothing ..
pub kept_refused : (p : Plan) (refusal : ℕ) (registers wanted : List ℕ) (e : Refusal) → number e ≡ refusal
    → RunPromise p refusal registers wanted (number e) no_run registers
kept_refused p refusal registers wanted e judged = record {
  refusal_is = judged;
  answer_is = refused e _ _;
  doublings_are = refused e _ _;
  additions_are = refused e _ _;
  registers_are = refused e _ _;
}

-- .. else they are the first of the nine that the steps end in, and the one of the answer row is answered.
pub kept_accepted : {p : Plan} → Accepted p → {refusal : ℕ} {registers wanted : List ℕ} (end : List ℕ) → 0 ≡ refusal → take (suc p.d) end ≡ wanted
    → RunPromise p refusal registers wanted 0
    (record { answer = get_or end (p.answer - 1) 0; doublings = p.l; additions = p.l * p.d }) (take (p.d + 1) end)
unfolding answer_register
kept_accepted {p} ok end judged ended = record {
  refusal_is = judged;
  answer_is =
      ap (λ i. get_or end i 0) (sub-one p.answer)
      ∙ sym (get_or-take (suc p.d) end (pred p.answer) 0 (omega (arith, sub-one p.answer, ok.answer_low, ok.answer_high)))
      ∙ ap (λ l. get_or l (pred p.answer) 0) ended ∙ accepted _ _;
  doublings_are = sym (trace_doublings p) ∙ accepted _ _;
  additions_are = sym (trace_additions p) ∙ accepted _ _;
  registers_are = ap (λ n. take n end) (add-one p.d) ∙ ended ∙ accepted _ _;
}
