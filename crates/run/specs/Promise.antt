-- What the plain run and the difference run promise, on all input: the refusal of the table, every answer and every output.
-- Assumes nothing.
use Rattle.std.specs.Prelude.{ℕ, ◌≡◌, List, map}
use Rattle.ladder.specs.Plan.{Plan, last_matrix}
use Rattle.ladder.specs.Trace.{entries_in, doublings, addition_count}
use Rattle.ladder.specs.Registers.{combination, difference_registers, answer_register}
use Rattle.ladder.specs.Refusals.{refusing, run_refusal}
use Rattle.run.specs.declared.answer.Ran.{Ran}

-- What stands for the answer of a run that is refused.
abbrev pub no_run : Ran
no_run = record { answer = 0; doublings = 0; additions = 0 }

-- A run of the plan p, with the number that the table gives it and the registers as they come and as they are left. `wanted` are the end
-- registers by the run's rule: they are left, the one of the answer row is answered, and the counts are those of the trace's entries; on
-- refusal zeros, and the registers as they came.
pub record RunPromise (p : Plan) (number : ℕ) (registers wanted : List ℕ) (refusal : ℕ) (r : Ran) (registers_after : List ℕ) : Type 0 where
  pub refusal_is : refusal ≡ number
  pub answer_is : r.answer ≡ refusing refusal 0 (answer_register p wanted)
  pub doublings_are : r.doublings ≡ refusing refusal 0 (doublings (entries_in p))
  pub additions_are : r.additions ≡ refusing refusal 0 (addition_count (entries_in p))
  pub registers_are : registers_after ≡ refusing refusal registers wanted

-- The plain run of the plan p over elements by the modulus that m stands for: register i is the combination of the elements by row i of the
-- last matrix. With d 2, l 2, start order 1 2, bits B0, row 2, elements 10, 20 and modulus 101: refusal 0, answer 40, 2 doublings, 4
-- additions, registers 60, 40, 50.
abbrev pub PlainPromise : Plan → ℕ → List ℕ → List ℕ → ℕ → Ran → List ℕ → Type 0
PlainPromise p m elements registers refusal r registers_after =
    RunPromise p (run_refusal p m elements registers) registers (map (combination m elements) (last_matrix p)) refusal r registers_after

-- The difference run: the registers that its own rule defines, each addition made from register x and the difference vector alone. The
-- same answers and registers as above.
abbrev pub DifferencePromise : Plan → ℕ → List ℕ → List ℕ → ℕ → Ran → List ℕ → Type 0
DifferencePromise p m elements registers refusal r registers_after =
    RunPromise p (run_refusal p m elements registers) registers (difference_registers p m elements p.l) refusal r registers_after
