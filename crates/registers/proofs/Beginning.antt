-- The start registers as a loop makes them: place by place of the start order, what is left from here is what was left at first.
-- Assumes nothing.
use Rattle.std.proofs.Common.{◌≡◌, ℕ, suc, ◌+◌, ◌%◌, ◌<◌, ◌≤◌, List, [], ◌∷◌, ◌++◌, length, get_or, take, drop, set, replicate, sym, refl, ap, ◌∙◌, ap₂, add-one, arith, length-set, drop_of_length-le, drop-cons, take-suc, get_or-set_same}
use lib.Seq.{take-set-le, append_snoc}
use Rattle.ladder.specs.Registers.{modulus, start_from, start_registers}
use Rattle.registers.proofs.ByModulus.{modulus_positive, below_modulus}

-- After k places: the registers before, and those that are still to come from the last, are the start registers.
pub record Beginning (m : ℕ) (elements S regs : List ℕ) (k : ℕ) : Type 0 where
  pub within : k ≤ length S
  pub wide : length regs ≡ 9
  pub below : get_or regs k 0 < modulus m
  pub done : take k regs ++ start_from m elements (get_or regs k 0) (drop k S) ≡ start_registers m elements S

module _ (m : ℕ) (elements S : List ℕ) where
  pub beginning_start : Beginning m elements S (replicate 9 0) 0
  unfolding start_registers
  beginning_start = record { within = omega arith; wide = refl; below = modulus_positive m; done = refl }

  -- One register more.
  pub beginning_next : {regs : List ℕ} {k : ℕ} → Beginning m elements S regs k → k < length S → length S ≤ 8
      → (next : ℕ) → next ≡ (get_or regs k 0 + get_or elements (get_or S k 0) 0) % modulus m
      → Beginning m elements S (set regs (k + 1) next) (k + 1)
  unfolding start_from
  beginning_next {regs} {k} b h few next e =
      let a = get_or regs k 0 in
      let last : get_or (set regs (k + 1) next) (k + 1) 0 ≡ next = get_or-set_same regs (k + 1) next 0 (omega (arith, b.wide)) in
      let front : take (k + 1) (set regs (k + 1) next) ≡ take k regs ++ (a ∷ []) =
      take-set-le (k + 1) regs (k + 1) next (omega arith) ∙ ap (λ i. take i regs) (add-one k) ∙ take-suc regs k 0 (omega (arith, b.wide)) in
      let rest = drop (suc k) S in
      record {
        within = omega arith;
        wide = length-set regs (k + 1) next ∙ b.wide;
        below = rw (last, e) (below_modulus m (a + get_or elements (get_or S k 0) 0));
        done =
            ap₂ (λ l n. l ++ start_from m elements n (drop (k + 1) S)) front (last ∙ e)
            ∙ ap (λ i. (take k regs ++ (a ∷ [])) ++ start_from m elements ((a + get_or elements (get_or S k 0) 0) % modulus m) (drop i S)) (add-one k)
            ∙ append_snoc (take k regs) a (start_from m elements ((a + get_or elements (get_or S k 0) 0) % modulus m) rest)
            ∙ ap (λ T. take k regs ++ start_from m elements a T) (sym (drop-cons S k 0 h))
            ∙ b.done;
      }

  -- All of them.
  pub beginning_end : {regs : List ℕ} {k : ℕ} → Beginning m elements S regs k → length S ≤ k → length S ≤ 8
      → take (suc (length S)) regs ≡ start_registers m elements S
  unfolding start_from
  beginning_end {regs} {k} b h few =
      let over : length S ≡ k = omega (arith, b.within) in
      ap (λ n. take (suc n) regs) over
      ∙ take-suc regs k 0 (omega (arith, b.wide))
      ∙ ap (λ T. take k regs ++ start_from m elements (get_or regs k 0) T) (sym (drop_of_length-le S {i = k} h))
      ∙ b.done
