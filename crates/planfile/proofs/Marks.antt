-- The mark as it is compared.
-- Assumes nothing.
use Rattle.std.proofs.Common.{◌≡◌, ℕ, List, [], ◌∷◌, refl, ap₂, ◌&&◌, arith}
use Rattle.std.proofs.lemmas.Bool.Decides.{nat_tests}
use Rattle.std.specs.Cmp.Lexicographic.{pointwise}
use lib.Dec.{eqb}
use Rattle.ladder.specs.Refusals.{same_numbers}

same : (a b : ℕ) → eqb a b ≡ eqb b a
same a b = grind (arith, nat_tests)

-- The library's test of two slices is the rules' one of two lists.
pub same_bytes : (s t : List ℕ) → pointwise eqb s t ≡ same_numbers t s
unfolding same_numbers
same_bytes [] [] = refl
same_bytes [] (b ∷ t) = refl
same_bytes (a ∷ s) [] = refl
same_bytes (a ∷ s) (b ∷ t) = ap₂ (λ x y. x && y) (same a b) (same_bytes s t)
