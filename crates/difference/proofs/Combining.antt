-- The difference run's addition as a loop makes it: element by element, what is left from here is what was left at first.
-- Assumes nothing.
use Rattle.std.proofs.Common.{◌≡◌, ℕ, ◌+◌, ◌*◌, ◌%◌, ◌<◌, ◌≤◌, List, length, get_or, drop, ℤ, pos, sym, ap, ◌∙◌, ap₂, add-one, arith, drop_of_length-le, drop-cons}
use native.Mathlib.Nat.{mod-add-mod}
use Rattle.ladder.specs.Registers.{modulus, times_signed, signed_sum, difference_add}
use Rattle.registers.proofs.ByModulus.{below_modulus, element_kept}

-- After j elements: the sum so far and the combination of those that are left make the new register.
pub record Combining (m : ℕ) (elements : List ℕ) (v : List ℤ) (x sum j : ℕ) : Type 0 where
  pub within : j ≤ length elements
  pub below : sum < modulus m
  pub done : (sum + signed_sum m (drop j v) (drop j elements)) % modulus m ≡ difference_add m elements x v

module _ (m : ℕ) (elements : List ℕ) (v : List ℤ) (x : ℕ) where
  pub combining_start : (sum : ℕ) → sum ≡ (x + x) % modulus m → Combining m elements v x sum 0
  unfolding difference_add
  combining_start sum e =
      let twice : x + x + signed_sum m v elements ≡ 2 * x + signed_sum m v elements = omega arith in
      record {
        within = omega arith;
        below = rw e (below_modulus m (x + x));
        done = rw e (mod-add-mod (x + x) (modulus m) (signed_sum m v elements) ∙ ap (λ n. n % modulus m) twice);
      }

  -- One element more.
  pub combining_next : {sum j : ℕ} → Combining m elements v x sum j → j < length elements → length elements ≤ length v
      → (t : ℕ) → t ≡ times_signed m (get_or v j (pos 0)) (get_or elements j 0) % modulus m
      → (next : ℕ) → next ≡ (sum + t) % modulus m → Combining m elements v x next (j + 1)
  unfolding signed_sum
  combining_next {sum} {j} c h wide t e next f =
      let T = times_signed m (get_or v j (pos 0)) (get_or elements j 0) in
      let left = signed_sum m (drop (j + 1) v) (drop (j + 1) elements) in
      let split : signed_sum m (drop j v) (drop j elements) ≡ T + left =
      ap₂ (signed_sum m) (drop-cons v j (pos 0) (omega arith)) (drop-cons elements j 0 h)
      ∙ ap (λ i. T + signed_sum m (drop i v) (drop i elements)) (sym (add-one j)) in
      let swap : sum + T % modulus m + left ≡ T % modulus m + (sum + left) = omega arith in
      let back : T + (sum + left) ≡ sum + (T + left) = omega arith in
      record {
        within = omega arith;
        below = rw f (below_modulus m (sum + t));
        done =
            rw (f, e)
            (mod-add-mod (sum + T % modulus m) (modulus m) left
            ∙ ap (λ n. n % modulus m) swap
            ∙ mod-add-mod T (modulus m) (sum + left)
            ∙ ap (λ n. n % modulus m) back
            ∙ ap (λ n. (sum + n) % modulus m) (sym split)
            ∙ c.done);
      }

  -- All of them.
  pub combining_end : {sum j : ℕ} → Combining m elements v x sum j → length elements ≤ j → length v ≤ length elements
      → sum ≡ difference_add m elements x v
  unfolding signed_sum
  combining_end {sum} {j} c h wide =
      let none : sum + signed_sum m (drop j v) (drop j elements) ≡ sum =
      ap (λ n. sum + n)
      (ap₂ (signed_sum m) (drop_of_length-le v {i = j} (omega arith)) (drop_of_length-le elements {i = j} h))
      ∙ omega arith in
      sym (element_kept m sum c.below) ∙ ap (λ n. n % modulus m) (sym none) ∙ c.done
