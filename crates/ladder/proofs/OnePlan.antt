-- Inner: what `plan_of_scalars_start`, `plan_of_scalars_bits` and `plan_of_scalars_bytes` (Demand2) rest on. The lower of a column's
-- two numbers is its scalar, and without its last m bits the lower number m steps before; so encoding gives back each step.
-- Assumes nothing.
use Prim.Native.Nat.{ℕ, zero, suc, ◌+◌, ◌-◌, ◌*◌, ◌/◌, ◌%◌, ◌^◌, ◌≤◌, ◌<◌}
use mathlib.Core.Path.{◌≡◌, refl, sym, ap, ap₂, subst, ◌∙◌}
use mathlib.Core.Logic.{⊎_elim}
use mathlib.Core.List.{List}
use native.Mathlib.Nat.{div-one, sub_self, sub-zero, add-zero}
use native.Mathlib.Omega.{arith}
use lib.ListN.{length, get_or}
use lib.Pow.{shr-shr}
use lib.Seq.{ext_get_or}
use Rattle.ladder.specs.Matrix.{Matrix, entry, Arrangement, step_order, matrix_after, order_after}
use Rattle.ladder.specs.Encoding.{deal, rearrange, order_to_go, encoded_start, encoded_bits}
use Rattle.ladder.proofs.Order.{place_of, rearrange-step_order}
use Rattle.ladder.proofs.Stairs.{Stairs}
use Rattle.ladder.proofs.Ladder.{lower, state_after, lower_after, lower_bound}
use Rattle.ladder.proofs.Encoding.{dealt_is, length-deal, deal_at}

-- A number's last bit and that of its half, where the step added this bit.
bit_back : (n m t : ℕ) → t < 2 → n ≡ 2 * m + (m + t) % 2 → (n % 2 + m % 2) % 2 ≡ t
bit_back n m zero q e = let f : (m + 0) % 2 ≡ m % 2 = ap (λ k. k % 2) (add-zero m) in let g : n % 2 ≡ m % 2 = omega arith in omega arith
bit_back n m (suc zero) q e =
    let f : (m + 1) % 2 ≡ 1 - m % 2 = omega arith in let g : n % 2 ≡ 1 - m % 2 = omega arith in rw g (omega arith)
bit_back n m (suc (suc t)) q e = absurd (omega arith)

-- What a column of a state matrix ends in, by the lower of its two numbers: that and its lowest bit in row 0, that and 1 minus its
-- lowest bit in row d.
module _ {d : ℕ} {B : Matrix} {S : List ℕ} (C : Stairs d B S) (j : ℕ) (h : j < d) where
  pub first_by_lower : entry B 0 j ≡ lower d B j + lower d B j % 2
  first_by_lower = ⊎_elim (λ p. omega (arith, C.even j)) (λ p. omega (arith, C.even j)) (C.apart j h)

  pub last_by_lower : entry B d j ≡ lower d B j + (1 - lower d B j % 2)
  last_by_lower = ⊎_elim (λ p. omega (arith, C.even j)) (λ p. omega (arith, C.even j)) (C.apart j h)

module _ {d : ℕ} (l : ℕ) {S : List ℕ} (a : Arrangement d S) (r : ℕ → List ℕ) (long : (s : ℕ) → length (r s) ≡ d)
    (small : (s k : ℕ) → get_or (r s) k 0 < 2) (ks : List ℕ)
    (first : (j : ℕ) → j < d → entry (matrix_after d S r l) 0 j ≡ get_or ks j 0 + get_or ks j 0 % 2)
    (last : (j : ℕ) → j < d → entry (matrix_after d S r l) d j ≡ get_or ks j 0 + (1 - get_or ks j 0 % 2)) where
  scalar_is : (j : ℕ) → j < d → lower d (matrix_after d S r l) j ≡ get_or ks j 0
  scalar_is j h = omega (arith, first j h, last j h)

  arranged : (n : ℕ) → Arrangement d (order_after S r n)
  arranged n = (state_after a r long n).order

  lower_of : (n k j : ℕ) → k < d → get_or (order_after S r (suc n)) k 0 ≡ j
      → lower d (matrix_after d S r (suc n)) j
      ≡ 2 * lower d (matrix_after d S r n) j + (lower d (matrix_after d S r n) j + get_or (r n) k 0) % 2
  lower_of n k j h e =
      subst
      (λ c. lower d (matrix_after d S r (suc n)) c
      ≡ 2 * lower d (matrix_after d S r n) c + (lower d (matrix_after d S r n) c + get_or (r n) k 0) % 2)
      e (lower_after a r long n k h (small n k))

  -- The lower number m steps before the end is the scalar without its last m bits.
  lower_back : (m : ℕ) → m ≤ l → (j : ℕ) → j < d → lower d (matrix_after d S r (l - m)) j ≡ get_or ks j 0 / 2 ^ m
  lower_back zero h j b =
      ap (λ n. lower d (matrix_after d S r n) j) (omega arith) ∙ scalar_is j b ∙ sym (div-one (get_or ks j 0))
  lower_back (suc m) h j b =
      let s = l - suc m in
      let e : l - m ≡ suc s = omega arith in
      let p = place_of (arranged (suc s)) j b in
      let next = lower_of s p.0 j p.1 p.2 in
      let here : lower d (matrix_after d S r (suc s)) j ≡ get_or ks j 0 / 2 ^ m =
      ap (λ n. lower d (matrix_after d S r n) j) (sym e) ∙ lower_back m (omega arith) j b in
      let power : m + 1 ≡ suc m = omega arith in
      omega (arith, next, here, shr-shr (get_or ks j 0) m 1, ap (λ n. get_or ks j 0 / 2 ^ n) power)

  pub scalar_fits : (j : ℕ) → j < d → get_or ks j 0 < 2 ^ l
  scalar_fits j h = omega (arith, scalar_is j h, lower_bound a r long small l j h)

  -- The bits dealt to the scalars are the plan's bits.
  dealt_back : (s : ℕ) → s < l → deal l ks (order_after S r (suc s)) s ≡ r s
  dealt_back s h =
      ext_get_or 0 (deal l ks (order_after S r (suc s)) s) (r s)
      (length-deal l ks (order_after S r (suc s)) s ∙ (arranged (suc s)).long ∙ sym (long s))
      (λ k q.
      let b : k < d =
      omega (arith, length-deal l ks (order_after S r (suc s)) s, (arranged (suc s)).long) in
      let j = get_or (order_after S r (suc s)) k 0 in
      let inside = (arranged (suc s)).inside k b in
      deal_at l ks (order_after S r (suc s)) s k (omega (arith, (arranged (suc s)).long))
      ∙ dealt_is l (get_or ks j 0) s (scalar_fits j inside)
      ∙ ap₂ (λ x y. (x % 2 + y % 2) % 2)
      (sym (lower_back (l - suc s) (omega arith) j inside) ∙ ap (λ n. lower d (matrix_after d S r n) j) (omega arith))
      (sym (lower_back (l - s) (omega arith) j inside) ∙ ap (λ n. lower d (matrix_after d S r n) j) (omega arith))
      ∙ bit_back (lower d (matrix_after d S r (suc s)) j) (lower d (matrix_after d S r s) j) (get_or (r s) k 0) (small s k)
      (lower_of s k j b refl))

  orders_back : (m : ℕ) → m ≤ l → order_to_go l ks (order_after S r l) m ≡ order_after S r (l - m)
  unfolding order_to_go order_after
  orders_back zero h = ap (order_after S r) (sym (sub-zero l))
  orders_back (suc m) h =
      let s = l - suc m in
      let e : l - m ≡ suc s = omega arith in
      ap (λ U. rearrange U (deal l ks U s)) (orders_back m (omega arith) ∙ ap (order_after S r) e)
      ∙ ap (rearrange (step_order (order_after S r s) (r s))) (dealt_back s (omega arith))
      ∙ rearrange-step_order (order_after S r s) (r s) ((arranged s).long ∙ sym (long s))

  -- Encoding the scalars with the last matrix's order gives back the start order ..
  pub start_back : encoded_start l ks (order_after S r l) ≡ S
  unfolding encoded_start order_after
  start_back = orders_back l (omega arith) ∙ ap (order_after S r) (sub_self l)

  -- .. and the bits of each step.
  pub bits_back : (s : ℕ) → s < l → encoded_bits l ks (order_after S r l) s ≡ r s
  unfolding encoded_bits
  bits_back s h =
      let e : l - (l - suc s) ≡ suc s = omega arith in
      ap (λ U. deal l ks U s) (orders_back (l - suc s) (omega arith) ∙ ap (order_after S r) e) ∙ dealt_back s h
