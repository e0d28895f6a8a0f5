-- Values and scalars compared one by one: those that are left decide whether all are the same.
-- Assumes nothing.
use Rattle.std.proofs.Common.{◌≡◌, ℕ, zero, suc, ◌*◌, ◌<◌, List, ◌++◌, Bool, true, false, ◌&&◌, length, sym, ap, ap₂, ◌∙◌, arith, eqb, length-append, suc-mul, zero-mul}
use Rattle.ladder.specs.Lists.{tabulate}
use Rattle.ladder.specs.Numbers.{number_of, numbers_of}
use Rattle.ladder.specs.Refusals.{same_numbers}
use Rattle.ladder.proofs.Numbers.{numbers_of-append}

-- As many values of k words as scalars of n words are left, and they are the same exactly where all are.
pub record Left (same : Bool) (k n : ℕ) (values scalars : List ℕ) : Type 0 where
  pub count : ℕ
  pub values_long : length values ≡ count * k
  pub scalars_long : length scalars ≡ count * n
  pub decides : same ≡ same_numbers (numbers_of count k values) (numbers_of count n scalars)

module _ {same : Bool} {k n : ℕ} {values scalars : List ℕ} (p : Left same k n values scalars) where
  module _ (some : 0 < k) (value scalar values_next scalars_next : List ℕ) (value_long : length value ≡ k) (scalar_long : length scalar ≡ n)
      (first : values ≡ value ++ values_next) (second : scalars ≡ scalar ++ scalars_next) where
    step : (m : ℕ) → length values ≡ m * k → length scalars ≡ m * n → same ≡ same_numbers (numbers_of m k values) (numbers_of m n scalars)
        → (i : ℕ) × (length values_next ≡ i * k) × (length scalars_next ≡ i * n)
        × (same ≡ (eqb (number_of value) (number_of scalar) && same_numbers (numbers_of i k values_next) (numbers_of i n scalars_next)))
    unfolding same_numbers
    step zero e f d = absurd (omega (arith, ap length first, length-append value values_next, zero-mul k))
    step (suc i) e f d = (
      i,
      omega (arith, ap length first, length-append value values_next, suc-mul i k),
      omega (arith, ap length second, length-append scalar scalars_next, suc-mul i n),
      d
          ∙ ap₂ (λ v s. same_numbers (numbers_of (suc i) k v) (numbers_of (suc i) n s)) first second
          ∙ ap₂ same_numbers (numbers_of-append i k value values_next value_long) (numbers_of-append i n scalar scalars_next scalar_long),
    )

    -- The first two are the same: the rest decides ..
    pub left_next : true ≡ eqb (number_of value) (number_of scalar) → Left same k n values_next scalars_next
    left_next e =
        let s = step p.count p.values_long p.scalars_long p.decides in
        record {
          count = s.0;
          values_long = s.1;
          scalars_long = s.2;
          decides = s.3 ∙ ap (λ b. b && same_numbers (numbers_of s.0 k values_next) (numbers_of s.0 n scalars_next)) (sym e);
        }

    -- .. or they are not.
    pub left_differs : false ≡ eqb (number_of value) (number_of scalar) → false ≡ same
    left_differs e =
        let s = step p.count p.values_long p.scalars_long p.decides in
        sym (s.3 ∙ ap (λ b. b && same_numbers (numbers_of s.0 k values_next) (numbers_of s.0 n scalars_next)) (sym e))

  -- Less than one is left: all are the same.
  pub left_ends : length values < k → true ≡ same
  unfolding same_numbers numbers_of tabulate
  left_ends h = go p.count p.values_long p.decides
    where
      go : (m : ℕ) → length values ≡ m * k → same ≡ same_numbers (numbers_of m k values) (numbers_of m n scalars) → true ≡ same
      go zero e d = sym d
      go (suc i) e d = absurd (omega (arith, suc-mul i k))

  pub left_none : length scalars < n → true ≡ same
  unfolding same_numbers numbers_of tabulate
  left_none h = go p.count p.scalars_long p.decides
    where
      go : (m : ℕ) → length scalars ≡ m * n → same ≡ same_numbers (numbers_of m k values) (numbers_of m n scalars) → true ≡ same
      go zero e d = sym d
      go (suc i) e d = absurd (omega (arith, suc-mul i n))
