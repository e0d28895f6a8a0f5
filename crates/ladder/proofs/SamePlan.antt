-- A plan is a complete thing: two plans that agree in d, l, start order, answer row and their l * d bits have the same matrices,
-- orders, signs, trace, answer and registers. The filling bits are not looked at.
-- Assumes nothing.
use Prim.Native.Nat.{ℕ, zero, suc, pred, ◌+◌, ◌*◌, ◌≤◌, ◌<◌}
use mathlib.Core.Path.{◌≡◌, refl, ap, ap₂, ◌∙◌}
use mathlib.Core.List.{List, map}
use native.Mathlib.Omega.{arith}
use lib.Arith.{digits_lt}
use Rattle.ladder.specs.Lists.{tabulate, joined}
use Rattle.ladder.specs.Numbers.{bit_at, bits_at}
use Rattle.ladder.specs.Matrix.{row, matrix_after, order_after, signs_after}
use Rattle.ladder.specs.Plan.{Plan, start_order, step_bits, matrix_in, order_in, signs_in, last_matrix, end_order, answer_row}
use Rattle.ladder.specs.Trace.{block, block_in, entries_in}
use Rattle.ladder.specs.Registers.{Rule, step_registers, registers_after, plain_rule, difference_rule, start_registers, plain_registers, difference_registers}
use Rattle.ladder.proofs.Lists.{tabulate-same, joined_same}
use Rattle.ladder.proofs.Ladder.{matrix_same, order_same, signs_same}

-- The same plan: all that a plan says, and no filling bit.
pub record SamePlan (p q : Plan) : Type 0 where
  pub d : p.d ≡ q.d
  pub l : p.l ≡ q.l
  pub start : p.start ≡ q.start
  pub bits : (n : ℕ) → n < p.l * p.d → bit_at p.bits n ≡ bit_at q.bits n
  pub answer : p.answer ≡ q.answer

-- Only the bits of the steps taken count for registers too.
registers_same : {A : Type 0} (rule : Rule A) (d : ℕ) (S : List ℕ) (r q : ℕ → List ℕ) (regs : List A) (n : ℕ)
    → ((s : ℕ) → s < n → r s ≡ q s) → registers_after rule d S r regs n ≡ registers_after rule d S q regs n
unfolding registers_after
registers_same rule d S r q regs zero e = refl
registers_same rule d S r q regs (suc n) e =
    let before : (s : ℕ) → s < n → r s ≡ q s = λ s h. e s (omega arith) in
    ap₂ (λ f b. f b)
    (ap₂ (λ B g. step_registers rule d B g) (matrix_same d S r q n before) (registers_same rule d S r q regs n before))
    (e n (omega arith))

module _ (p q : Plan) (e : SamePlan p q) where
  pub same_start : start_order p ≡ start_order q
  unfolding start_order
  same_start = ap (map pred) e.start

  pub same_bits : (s : ℕ) → s < p.l → step_bits p s ≡ step_bits q s
  unfolding bits_at
  same_bits s h =
      tabulate-same p.d (λ k. bit_at p.bits (s * p.d + k)) (λ k. bit_at q.bits (s * p.d + k))
      (λ k l. e.bits (s * p.d + k) (digits_lt h l))
      ∙ ap (λ d. tabulate d (λ k. bit_at q.bits (s * d + k))) e.d

  before : (n : ℕ) → n ≤ p.l → (s : ℕ) → s < n → step_bits p s ≡ step_bits q s
  before n h s b = same_bits s (omega arith)

  pub same_matrix : (n : ℕ) → n ≤ p.l → matrix_in p n ≡ matrix_in q n
  unfolding matrix_in
  same_matrix n h =
      ap₂ (λ d S. matrix_after d S (step_bits p) n) e.d same_start
      ∙ matrix_same q.d (start_order q) (step_bits p) (step_bits q) n (before n h)

  pub same-order : (n : ℕ) → n ≤ p.l → order_in p n ≡ order_in q n
  unfolding order_in
  same-order n h =
      ap (λ S. order_after S (step_bits p) n) same_start ∙ order_same (start_order q) (step_bits p) (step_bits q) n (before n h)

  pub same_signs : (n : ℕ) → n ≤ p.l → signs_in p n ≡ signs_in q n
  unfolding signs_in
  same_signs n h =
      ap₂ (λ d S. signs_after d S (step_bits p) n) e.d same_start
      ∙ signs_same q.d (start_order q) (step_bits p) (step_bits q) n (before n h)

  pub same_answer : answer_row p ≡ answer_row q
  unfolding answer_row last_matrix
  same_answer =
      ap₂ (λ B n. row B (pred n)) (same_matrix p.l (omega arith) ∙ ap (matrix_in q) e.l) e.answer

  pub same_end_order : end_order p ≡ end_order q
  unfolding end_order
  same_end_order = same-order p.l (omega arith) ∙ ap (order_in q) e.l

  pub same_trace : entries_in p ≡ entries_in q
  unfolding entries_in block_in
  same_trace =
      joined_same p.l (block_in p) (block_in q)
      (λ s h. ap₂ (λ f r. f r) (ap₂ block e.d (same_matrix s (omega arith))) (same_bits s h))
      ∙ ap (λ l. joined l (block_in q)) e.l

  same_registers : {A : Type 0} (rule : Rule A) (regs : List ℕ → List A) (n : ℕ) → n ≤ p.l
      → registers_after rule p.d (start_order p) (step_bits p) (regs (start_order p)) n
      ≡ registers_after rule q.d (start_order q) (step_bits q) (regs (start_order q)) n
  same_registers rule regs n h =
      ap₂ (λ d S. registers_after rule d S (step_bits p) (regs S) n) e.d same_start
      ∙ registers_same rule q.d (start_order q) (step_bits p) (step_bits q) (regs (start_order q)) n (before n h)

  pub same_plain : (m : ℕ) (es : List ℕ) (n : ℕ) → n ≤ p.l → plain_registers p m es n ≡ plain_registers q m es n
  unfolding plain_registers
  same_plain m es n h = same_registers (plain_rule m) (start_registers m es) n h

  pub same-difference : (m : ℕ) (es : List ℕ) (n : ℕ) → n ≤ p.l → difference_registers p m es n ≡ difference_registers q m es n
  unfolding difference_registers
  same-difference m es n h = same_registers (difference_rule m es) (start_registers m es) n h
