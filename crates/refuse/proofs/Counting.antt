-- How often a number occurs in the first elements of a list, one element more at a time.
-- Assumes nothing.
use Prim.Native.Nat.{ℕ, suc, ◌+◌, ◌≤◌, ◌<◌}
use mathlib.Core.Path.{◌≡◌, refl, ap, ◌∙◌}
use mathlib.Core.Bool.{Bool, true, false, cond}
use mathlib.Core.List.{List, [], ◌∷◌, ◌++◌}
use native.Mathlib.Numerals.{add-one}
use native.Mathlib.Omega.{arith}
use lib.Dec.{eqb}
use lib.ListN.{length, get_or, take}
use lib.Seq.{take-suc, take_all}
use Rattle.std.proofs.lemmas.Grind.{common_steps}
use Rattle.ladder.specs.Lists.{same, count}
use Rattle.ladder.proofs.Lists.{count-append}

-- None of no element ..
pub counted_none : (v : ℕ) → count v [] ≡ 0
unfolding count
counted_none v = refl

module _ (v : ℕ) (s : List ℕ) {i : ℕ} where
  -- .. one more where the next element is the number ..
  pub counted_next : i < length s → count v (take (i + 1) s) ≡ count v (take i s) + cond (eqb (get_or s i 0) v) 1 0
  unfolding count same
  counted_next h =
      let next : count v (get_or s i 0 ∷ []) ≡ cond (eqb (get_or s i 0) v) 1 0 = omega arith in
      ap (λ n. count v (take n s)) (add-one i)
      ∙ ap (count v) (take-suc s i 0 h)
      ∙ count-append v (take i s) (get_or s i 0 ∷ [])
      ∙ ap (λ n. count v (take i s) + n) next

  -- .. and all of the list's at its end.
  pub counted_all : length s ≤ i → count v (take i s) ≡ count v s
  counted_all h = ap (count v) (take_all i s h)

one : (b : Bool) → cond b 1 0 ≤ 1
one true = omega arith
one false = omega arith

-- Not more than there are elements.
pub counted_few : (v : ℕ) (s : List ℕ) → count v s ≤ length s
unfolding count same
counted_few v [] = omega arith
counted_few v (x ∷ s) = omega (arith, one (eqb x v), counted_few v s)

-- With the usual steps on lists they show how far the count has come.
pub ruleset counting = (counted_none, counted_next, counted_all, counted_few, common_steps)
