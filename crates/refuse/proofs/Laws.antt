-- Laws of the table's tests.
-- Assumes nothing.
use Prim.Native.Nat.{ℕ, zero, suc}
use mathlib.Core.Path.{◌≡◌, refl, sym, ap, ap₂, ◌∙◌}
use mathlib.Core.Logic.{◌≢◌}
use mathlib.Core.Bool.{Bool, true, false, cond, ◌&&◌}
use mathlib.Core.List.{List}
use native.Mathlib.Omega.{arith}
use lib.Dec.{ltb}
use Rattle.ladder.specs.Lists.{all}
use Rattle.ladder.proofs.Tests.{then_none, then_first, then_next, then_assoc}
use Rattle.ladder.proofs.Refusals.{dim_none, len_none}
use Rattle.ladder.specs.Refusals.{◌then◌, unless, dim, len, element}
use Rattle.refuse.specs.Inner.{InRange}

-- ---- two tests

pub both_true : (a b : Bool) → a ≡ true → b ≡ true → a && b ≡ true
both_true a b e f = ap₂ (λ s t. s && t) e f

pub first_false : (a b : Bool) → a ≡ false → a && b ≡ false
first_false a b e = ap (λ t. t && b) e

-- ---- refusals in a row

pub unless_yes : (test : Bool) (n : ℕ) → test ≡ true → unless test n ≡ 0
unfolding unless
unless_yes test n e = ap (λ t. cond t 0 n) e

pub unless_no : (test : Bool) (n : ℕ) → test ≡ false → unless test n ≡ n
unfolding unless
unless_no test n e = ap (λ t. cond t 0 n) e

-- ---- d and l

-- Where neither is refused, both are in range.
pub in_range : (d l : ℕ) → dim d then len l ≡ 0 → InRange d l
in_range d l e =
    let t = then_none (dim d) (len l) e in
    let ds = (dim_none d).0 t.0 in
    let ls = (len_none l).0 t.1 in
    record { d_low = ds.0; d_high = ds.1; l_low = ls.0; l_high = ls.1 }

-- Every operation but a step's judges d and l first, then the shapes, then the rest.
module _ (d l shapes rest : ℕ) {range : ℕ} (judged : range ≡ dim d then len l) where
  parted : dim d then len l then shapes then rest ≡ range then shapes then rest
  parted = sym (then_assoc (dim d) (len l) (shapes then rest)) ∙ ap (λ n. n then shapes then rest) (sym judged)

  -- What refuses d or l is the refusal ..
  pub range_refuses : range ≢ 0 → range ≡ dim d then len l then shapes then rest
  range_refuses some = sym (parted ∙ then_first range _ some)

  module _ (none : range ≡ 0) where
    -- .. else what refuses a shape ..
    pub shapes_refuse : shapes ≢ 0 → shapes ≡ dim d then len l then shapes then rest
    shapes_refuse some = sym (parted ∙ then_next range _ none ∙ then_first shapes rest some)

    -- .. else the rest.
    pub rest_refuses : shapes ≡ 0 → rest ≡ dim d then len l then shapes then rest
    rest_refuses whole = sym (parted ∙ then_next range _ none ∙ then_next shapes rest whole)

-- ---- elements

-- A modulus of 0 has every word ..
pub element_any : (m : ℕ) (es : List ℕ) → m ≡ 0 → element m es ≡ 0
unfolding element
element_any zero es e = refl
element_any (suc m) es e = absurd (omega arith)

-- .. and any other the words below it.
pub element_some : (m : ℕ) (es : List ℕ) → m ≢ 0 → element m es ≡ unless (all (λ e. ltb e m) es) 8
unfolding element
element_some zero es ne = absurd (ne refl)
element_some (suc m) es ne = refl
