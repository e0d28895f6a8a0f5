-- When the refusals of a plan file are 0: its trailer, its back distance and its size.
-- Assumes nothing.
use Prim.Native.Nat.{ℕ, ◌+◌, ◌≤◌}
use mathlib.Core.Path.{◌≡◌, refl, ap, ap₂}
use mathlib.Core.Logic.{◌↔◌}
use mathlib.Core.List.{List, [], ◌∷◌}
use native.Mathlib.Omega.{arith}
use lib.ListN.{length}
use Rattle.ladder.specs.PlanFile.{mark, trailer_size, body_length, d_in, l_in, distance_in, mark_in}
use Rattle.ladder.specs.Refusals.{same_numbers, trailer, distance, big}
use Rattle.ladder.proofs.Tests.{Says, unless_says, reworded, leb_says, eqb_says, and_says}

-- Two lists of bytes are the same.
pub same_numbers_says : (a b : List ℕ) → Says (same_numbers a b) (a ≡ b)
unfolding same_numbers
same_numbers_says [] [] = record { told = λ t. refl; passed = λ e. tt }
same_numbers_says [] (b ∷ bs) = record { told = λ t. absurd t; passed = λ e. omega (arith, ap length e) }
same_numbers_says (a ∷ rest) [] = record { told = λ t. absurd t; passed = λ e. omega (arith, ap length e) }
same_numbers_says (a ∷ rest) (b ∷ bs) =
    reworded (and_says (eqb_says a b) (same_numbers_says rest bs))
    (λ t. ap₂ (λ c l. c ∷ l) t.0 t.1, λ e. ((cc), (cc)))

-- A file has 12 bytes or more, and ends in the mark.
pub trailer_none : (file : List ℕ) → trailer file ≡ 0 ↔ (12 ≤ length file) × (mark_in file ≡ mark)
unfolding trailer trailer_size
trailer_none file = unless_says 8 (and_says (leb_says 12 (length file)) (same_numbers_says (mark_in file) mark))

-- The back distance is the body's length, and as many bytes stand before the trailer.
pub distance_none : (file : List ℕ)
    → distance file ≡ 0
    ↔ (distance_in file ≡ body_length (d_in file) (l_in file)) × (distance_in file + trailer_size ≤ length file)
unfolding distance
distance_none file =
    unless_says 8
    (and_says (eqb_says (distance_in file) (body_length (d_in file) (l_in file))) (leb_says (distance_in file + trailer_size) (length file)))

-- A file has at most 4,096 bytes.
pub big_none : (file : List ℕ) → big file ≡ 0 ↔ length file ≤ 4096
unfolding big
big_none file = unless_says 9 (leb_says (length file) 4096)
