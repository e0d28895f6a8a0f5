-- What the judging of a walk state and of a step's number shows, in terms of the table's tests.
-- Assumes nothing.
use Prim.Native.Nat.{ℕ, ◌/◌, ◌^◌, ◌≤◌, ◌<◌}
use mathlib.Core.Path.{◌≡◌, refl, sym, ap, ◌∙◌}
use mathlib.Core.List.{List}
use native.Mathlib.Nat.{div-lt_iff_lt-mul, div-eq_of_lt}
use native.Mathlib.Omega.{arith}
use lib.Dec.{eqb, ltb, eqb-suc-suc}
use lib.IntN.{ℤ, pos, negsuc, nat_abs}
use lib.ListN.{length, get_or, take}
use lib.Pow.{pow_pos}
use lib.Seq.{length-take-le, get_or-take}
use Rattle.ladder.specs.Lists.{tabulate, all}
use Rattle.ladder.specs.Refusals.{is_unit, all_units}
use Rattle.ladder.proofs.Lists.{tabulate-same, tabulate-get_or}
use Rattle.ladder.proofs.Tests.{Says, eqb_says, ltb_says, reworded, says_yes, says_true, says_same}

-- ---- signs

-- A sign is 1 or -1 where it is 1 without its sign.
pub unit_is : (s : ℤ) → is_unit s ≡ eqb (nat_abs s) 1
unfolding is_unit
unit_is (pos n) = refl
unit_is (negsuc n) = sym (eqb-suc-suc n 0)

-- The first d signs of a list are 1 or -1 where those of its first d places are.
pub units_are : (d : ℕ) (signs : List ℤ) → d ≤ length signs → all is_unit (take d signs) ≡ all_units d signs
unfolding all_units
units_are d signs h =
    ap (all is_unit)
    (sym (tabulate-get_or (take d signs) (pos 0))
    ∙ ap (λ n. tabulate n (λ i. get_or (take d signs) i (pos 0))) (length-take-le d signs h)
    ∙ tabulate-same d (λ i. get_or (take d signs) i (pos 0)) (λ i. get_or signs i (pos 0)) (λ i l. get_or-take d signs i (pos 0) l))

-- ---- number 3

-- A number without bits from bit d on is below 2^d, and no other is.
pub small_says : (d n : ℕ) → Says (eqb (n / 2 ^ d) 0) (n < 2 ^ d)
small_says d n =
    reworded (eqb_says (n / 2 ^ d) 0)
    (λ e. omega (arith, (div-lt_iff_lt-mul {k = 2 ^ d} {x = n} {y = 1} (pow_pos d)).0 (omega arith)), div-eq_of_lt)

pub small_is : (d n : ℕ) → eqb (n / 2 ^ d) 0 ≡ ltb n (2 ^ d)
small_is d n = says_same (ltb_says n (2 ^ d)) (λ e. says_true (small_says d n) e, λ h. sym (says_yes (small_says d n) h))
