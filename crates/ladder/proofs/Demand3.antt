-- Demand 3, for every accepted plan: a state matrix before and after each step; each step one doubling and d additions; the two
-- rows of an addition differ by a vector of -1, 0, 1 that is not all zero, one column more with each addition, and the trace
-- records the true one; the difference run ends in the plain run's registers.
-- Assumes nothing.
use Prim.Native.Nat.{ℕ, suc, ◌^◌, ◌≤◌, ◌<◌}
use mathlib.Core.Path.{◌≡◌, refl, sym, ap, ap₂, subst, ◌∙◌}
use mathlib.Core.List.{List, []}
use native.Mathlib.Omega.{arith}
use lib.IntN.{pos}
use lib.ListN.{length, get_or, set, length-map}
use Rattle.ladder.specs.Lists.{ones}
use Rattle.ladder.specs.Matrix.{Row, Matrix, row, entry, add_rows, double_row, StateMatrix, signs_of, Pair, additions, step, matrix_after, order_after, IsUnit, IsSmall}
use Rattle.ladder.specs.Plan.{Plan, step_bits, matrix_in, order_in, signs_in}
use Rattle.ladder.specs.Trace.{vector_of, Entry, operations, entry_of, block, block_in}
use Rattle.ladder.specs.Registers.{modulus, plain_registers, difference_registers}
use Rattle.ladder.specs.Refusals.{run_refusal}
use Rattle.ladder.proofs.Lists.{get_or-map, ones_le}
use Rattle.ladder.proofs.Step.{length-additions, additions_x, additions_y, row-step-suc, no_pair}
use Rattle.ladder.proofs.Ladder.{state_after, signs_after_lem, entry_bound}
use Rattle.ladder.proofs.Bits.{length-step_bits, step_bits_below}
use Rattle.ladder.proofs.Vectors.{vector_doubling, vector_small, vector_not_zero, addition_apart, addition_inside, vector_filled}
use Rattle.ladder.proofs.Registers.{runs_agree}
use Rattle.ladder.proofs.Refusals.{Accepted, run_accepted_plan}

-- What an addition of a step from matrix B is: two rows, the first above the second, whose sum is the new row; the vector is the
-- second minus the first, of coefficients -1, 0 and 1 that are not all zero.
pub record Adds (d : ℕ) (B : Matrix) (new : Row) (e : Entry) : Type 0 where
  pub apart : e.x < e.y
  pub inside : e.y ≤ d
  pub sum : new ≡ add_rows (row B e.x) (row B e.y)
  pub true_vector : e.vector ≡ vector_of d B (record { x = e.x; y = e.y })
  pub small : (j : ℕ) → IsSmall (get_or e.vector j (pos 0))
  pub not_zero : (j : ℕ) × (j < d) × IsUnit (get_or e.vector j (pos 0))

-- What a doubling is: one row, whose double is the new row; the vector is all zero.
pub record Doubles (d : ℕ) (B : Matrix) (new : Row) (e : Entry) : Type 0 where
  pub one_row : e.x ≡ e.y
  pub inside : e.y ≤ d
  pub twice : new ≡ double_row (row B e.x)
  pub zeros : (j : ℕ) → j < d → get_or e.vector j (pos 0) ≡ pos 0

-- What stands where a block has no entry.
unfoldable pub no_entry : Entry
no_entry = record { x = 0; y = 0; vector = [] }

module _ {d : ℕ} {B : Matrix} {S : List ℕ} (M : StateMatrix d B S) (r : List ℕ) (long : length r ≡ d) where
  pair_adds : (p : Pair) (new : Row) → p.x < p.y → p.y ≤ d → new ≡ add_rows (row B p.x) (row B p.y)
      → Adds d B new (entry_of d B p)
  unfolding entry_of
  pair_adds p new h l e = record {
    apart = h;
    inside = l;
    sum = e;
    true_vector = refl;
    small = vector_small M p (omega arith) l;
    not_zero = vector_not_zero M p (omega arith) l h;
  }

  -- Entry i of a step's block is that of its operation i.
  block-entry : (i : ℕ) → i ≤ d → get_or (block d B r) i no_entry ≡ entry_of d B (get_or (operations r) i no_pair)
  unfolding block operations
  block-entry i h = get_or-map (entry_of d B) (operations r) i no_pair no_entry (omega (arith, length-additions r))

  -- Each entry of a step's block but the first is an addition ..
  pub block_adds : (i : ℕ) → i < d → Adds d B (row (step B r) (suc i)) (get_or (block d B r) (suc i) no_entry)
  unfolding operations
  block_adds i h =
      let b : i < length r = omega arith in
      subst (Adds d B (row (step B r) (suc i))) (sym (block-entry (suc i) h))
      (pair_adds (get_or (additions r) i no_pair) (row (step B r) (suc i)) (addition_apart r i b) (omega (arith, addition_inside r i b))
      (row-step-suc B r i b
      ∙ ap₂ (λ x y. add_rows (row B x) (row B y)) (sym (additions_x r i no_pair b)) (sym (additions_y r i no_pair b))))

  -- .. and the first is a doubling.
  pub block_doubles : Doubles d B (row (step B r) 0) (get_or (block d B r) 0 no_entry)
  unfolding block operations entry_of step no_entry
  block_doubles = record {
    one_row = refl;
    inside = omega (arith, ones_le r);
    twice = refl;
    zeros = vector_doubling d B (ones r);
  }

  -- There are d+1 of them.
  pub length-block : length (block d B r) ≡ suc d
  unfolding block operations
  length-block = ap suc (length-map (additions r) (entry_of d B) ∙ length-additions r ∙ long)

-- ---- every accepted plan

module _ (p : Plan) (ok : Accepted p) where
  -- Before and after every step: a state matrix, with the order that the rule gives ..
  pub state_in : (n : ℕ) → StateMatrix p.d (matrix_in p n) (order_in p n)
  unfolding matrix_in order_in
  state_in n = state_after ok.start (step_bits p) (length-step_bits p) n

  -- .. and the signs that the rule gives.
  pub signs_in_lem : (n : ℕ) → signs_of p.d (matrix_in p n) ≡ signs_in p n
  unfolding matrix_in signs_in
  signs_in_lem n = signs_after_lem ok.start (step_bits p) (length-step_bits p) n

  -- Every step is one doubling ..
  pub doubling_in : (s : ℕ) → Doubles p.d (matrix_in p s) (row (matrix_in p (suc s)) 0) (get_or (block_in p s) 0 no_entry)
  unfolding block_in matrix_in matrix_after
  doubling_in s = block_doubles (state_in s) (step_bits p s) (length-step_bits p s)

  -- .. and d additions, whose vectors are those of the trace.
  pub addition_in : (s i : ℕ) → i < p.d
      → Adds p.d (matrix_in p s) (row (matrix_in p (suc s)) (suc i)) (get_or (block_in p s) (suc i) no_entry)
  unfolding block_in matrix_in matrix_after
  addition_in s i h = block_adds (state_in s) (step_bits p s) (length-step_bits p s) i h

  -- With each addition one more column: the vector of entry i+1 is that of entry i with the sign, before the step, of the column at
  -- place i of the new order filled in.
  pub vector_next : (s i : ℕ) → i < p.d
      → (get_or (block_in p s) (suc i) no_entry).vector
      ≡ set (get_or (block_in p s) i no_entry).vector (get_or (order_in p (suc s)) i 0)
      (get_or (signs_in p s) (get_or (order_in p (suc s)) i 0) (pos 0))
  unfolding block_in order_in order_after entry_of
  vector_next s i h =
      let entry-is = block-entry (state_in s) (step_bits p s) (length-step_bits p s) in
      let j = get_or (order_in p (suc s)) i 0 in
      ap (λ e. e.vector) (entry-is (suc i) h)
      ∙ vector_filled (state_in s) (step_bits p s) (length-step_bits p s) i h
      ∙ ap₂ (λ e signs. set e.vector j (get_or signs j (pos 0))) (sym (entry-is i (omega arith))) (signs_in_lem s)

  pub entries_in_lem : (s : ℕ) → length (block_in p s) ≡ suc p.d
  unfolding block_in
  entries_in_lem s = length-block (state_in s) (step_bits p s) (length-step_bits p s)

  -- Every entry after n steps is at most 2^n.
  pub bound_in : (n i j : ℕ) → i ≤ p.d → entry (matrix_in p n) i j ≤ 2 ^ n
  unfolding matrix_in
  bound_in n i j h = entry_bound ok.start (step_bits p) (length-step_bits p) (step_bits_below p) n i j h

  -- A run that forms each addition from the first row and the vector alone has the plain run's registers after each step.
  pub runs_in : (m : ℕ) (es : List ℕ) → ((j : ℕ) → get_or es j 0 ≤ modulus m) → (n : ℕ)
      → difference_registers p m es n ≡ plain_registers p m es n
  unfolding difference_registers plain_registers
  runs_in m es fits n = runs_agree m es ok.start (step_bits p) (length-step_bits p) fits n

-- So it is for every run that is not refused; elements are words.
pub runs_agree_accepted : (p : Plan) (m : ℕ) (es regs : List ℕ) → run_refusal p m es regs ≡ 0 → ((j : ℕ) → get_or es j 0 < 2 ^ 64)
    → (n : ℕ) → difference_registers p m es n ≡ plain_registers p m es n
runs_agree_accepted p m es regs e words n =
    let ok = run_accepted_plan p m es regs e in
    runs_in p ok.0 m es (ok.1 words) n
