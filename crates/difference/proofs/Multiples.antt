-- An element times -1, 0 or 1 by a modulus.
-- Assumes nothing.
use Rattle.std.proofs.Common.{◌≡◌, ℕ, ◌-◌, ◌%◌, ◌<◌, true, false, T, ℤ, pos, negsuc, sym, ap, ◌∙◌, subst, ⊎_elim, one-mul, zero-mul}
use native.Mathlib.Nat.{zero-mod}
use lib.Signed.{lt_z}
use Rattle.ladder.specs.Matrix.{IsSmall}
use Rattle.ladder.specs.Registers.{modulus, times_signed}
use Rattle.registers.proofs.ByModulus.{element_kept}

module _ (m e : ℕ) (s : ℤ) where
  pub times_none : s ≡ pos 0 → 0 ≡ times_signed m s e % modulus m
  unfolding times_signed
  times_none q = rw q (sym (ap (λ i. i % modulus m) (zero-mul e) ∙ zero-mod (modulus m)))

  times_one : s ≡ pos 1 → e < modulus m → e ≡ times_signed m s e % modulus m
  unfolding times_signed
  times_one q h = rw q (sym (ap (λ n. n % modulus m) (one-mul e) ∙ element_kept m e h))

  times_minus : s ≡ negsuc 0 → (r : ℕ) → r ≡ (modulus m - e) % modulus m → r ≡ times_signed m s e % modulus m
  unfolding times_signed
  times_minus q r f = rw q (f ∙ ap (λ n. n % modulus m) (sym (one-mul (modulus m - e))))

  -- Below 0 it is -1 ..
  pub times_below : IsSmall s → lt_z s (pos 0) ≡ true → (r : ℕ) → r ≡ (modulus m - e) % modulus m → r ≡ times_signed m s e % modulus m
  times_below small b r f =
      ⊎_elim (λ q. absurd (other q tt)) (λ u. ⊎_elim (λ q. absurd (other q tt)) (λ q. times_minus q r f) u) small
    where
      other : {z : ℤ} → s ≡ z → T true → T (lt_z z (pos 0))
      other q = subst T (sym b ∙ ap (λ z. lt_z z (pos 0)) q)

  -- .. and else 1, where it is not 0.
  pub times_above : IsSmall s → lt_z s (pos 0) ≡ false → (s ≡ pos 0 → ⊥) → e < modulus m → e ≡ times_signed m s e % modulus m
  times_above small b n h =
      ⊎_elim (λ q. absurd (n q)) (λ u. ⊎_elim (λ q. times_one q h) (λ q. absurd (other q tt)) u) small
    where
      other : {z : ℤ} → s ≡ z → T (lt_z z (pos 0)) → T false
      other q = subst T (sym (ap (λ z. lt_z z (pos 0)) q) ∙ b)
