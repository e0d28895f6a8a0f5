-- Inner: what decoding without a matrix rests on. Orders and signs alone give the answer row: the signs after each step are the
-- binary digits, top first, of the lower of a column's two numbers, and the place in the last order says which of the two stands in
-- the row.
-- Assumes nothing.
use Prim.Native.Nat.{ℕ, zero, suc, pred, ◌+◌, ◌*◌, ◌%◌, ◌≤◌, ◌<◌}
use mathlib.Core.Path.{◌≡◌, sym, ap, subst, ◌∙◌}
use mathlib.Core.Logic.{⊎_elim}
use mathlib.Core.List.{List}
use native.Mathlib.Omega.{arith}
use lib.IntN.{pos}
use lib.ListN.{length, get_or, take}
use Rattle.ladder.specs.Lists.{count}
use Rattle.ladder.specs.Matrix.{entry, Arrangement, matrix_after, order_after, signs_after}
use Rattle.ladder.specs.Plan.{Plan, start_order, step_bits, matrix_in, order_in, last_matrix, end_order, answer_row}
use Rattle.ladder.specs.Inner.Decoding.{digit, walked, walked_entry}
use Rattle.ladder.proofs.Bits.{length-step_bits, step_bits_below}
use Rattle.ladder.proofs.Order.{place_of}
use Rattle.ladder.proofs.Signs.{get_or-signs_of}
use Rattle.ladder.proofs.Ladder.{lower, state_after, stairs_after, signs_after_lem, lower_after, lower_after_zero, sign_by_lower, entry_by_order}
use Rattle.ladder.proofs.Refusals.{Accepted}

module _ {d : ℕ} {S : List ℕ} (a : Arrangement d S) (r : ℕ → List ℕ) (long : (s : ℕ) → length (r s) ≡ d)
    (small : (s k : ℕ) → get_or (r s) k 0 < 2) where
  -- The sign's digit is the lower number's last one.
  digit_is : (n j : ℕ) → j < d → digit (get_or (signs_after d S r n) j (pos 0)) ≡ lower d (matrix_after d S r n) j % 2
  unfolding digit
  digit_is n j h =
      ap (λ s. digit (get_or s j (pos 0))) (sym (signs_after_lem a r long n))
      ∙ ap digit (get_or-signs_of d (matrix_after d S r n) j h)
      ∙ ⊎_elim
      (λ p. ap digit p.0 ∙ sym p.1)
      (λ p. ap digit p.0 ∙ sym p.1)
      (sign_by_lower (stairs_after a r long n) j h)

  -- The walk's number is the lower of the column's two.
  pub walked_is_lower : (n j : ℕ) → j < d → walked d S r n j ≡ lower d (matrix_after d S r n) j
  unfolding walked
  walked_is_lower zero j h = sym (lower_after_zero a r long j)
  walked_is_lower (suc n) j h =
      let p = place_of (state_after a r long (suc n)).order j h in
      let next = subst
      (λ c. lower d (matrix_after d S r (suc n)) c
      ≡ 2 * lower d (matrix_after d S r n) c + (lower d (matrix_after d S r n) c + get_or (r n) p.0 0) % 2)
      p.2 (lower_after a r long n p.0 p.1 (small n p.0)) in
      omega (arith, next, walked_is_lower n j h, digit_is (suc n) j h)

  -- What the walk yields is the entry of the row.
  pub entry_by_walk : (n i j : ℕ) → i ≤ d → j < d
      → entry (matrix_after d S r n) i j ≡ walked_entry (walked d S r n j) i (order_after S r n) j
  unfolding walked_entry
  entry_by_walk n i j h b =
      entry_by_order (stairs_after a r long n) j b i h
      ∙ ap (λ m. m + (m + count j (take i (order_after S r n))) % 2) (sym (walked_is_lower n j b))

-- What the walk of an accepted plan yields is its answer row.
pub answer_by_walk : (p : Plan) → Accepted p → (j : ℕ) → j < p.d
    → get_or (answer_row p) j 0
    ≡ walked_entry (walked p.d (start_order p) (step_bits p) p.l j) (pred p.answer) (end_order p) j
unfolding answer_row last_matrix matrix_in end_order order_in
answer_by_walk p ok j h =
    entry_by_walk ok.start (step_bits p) (length-step_bits p) (step_bits_below p) p.l (pred p.answer) j
    (omega (arith, ok.answer_high)) h
