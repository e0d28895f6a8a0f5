-- A number in decimal, one digit at a time.
-- Assumes nothing.
use Prim.Native.Nat.{ℕ, ◌/◌, ◌%◌, ◌^◌, ◌≤◌, ◌<◌}
use mathlib.Core.Path.{◌≡◌, ap, ◌∙◌}
use mathlib.Core.List.{[], ◌∷◌, ◌++◌, map, map-append}
use native.Mathlib.Omega.{arith}
use lib.ListN.{length}
use Rattle.std.proofs.lemmas.Grind.{common_steps}
use Rattle.ladder.specs.Listing.{digits_of, character, decimal}
use Rattle.ladder.proofs.Texts.{length-decimal}
use Rattle.ladder.proofs.Numerals.{digits_small, digits_more}

-- A number below ten is its one digit ..
pub decimal_small : (n : ℕ) → n < 10 → decimal n ≡ character (n % 10) ∷ []
unfolding decimal
decimal_small n h =
    let same : n ≡ n % 10 = omega arith in
    ap (map character) (digits_small 10 n h) ∙ ap (λ x. character x ∷ []) same

-- .. and a larger one what it has past its last digit, and that digit.
pub decimal_more : (n : ℕ) → 10 ≤ n → decimal n ≡ decimal (n / 10) ++ character (n % 10) ∷ []
unfolding decimal
decimal_more n h = ap (map character) (digits_more 10 (omega arith) n h) ∙ map-append character (digits_of 10 (n / 10)) (n % 10 ∷ [])

-- With the usual steps on lists they show how far a number has come.
pub ruleset digit_by_digit = (decimal_small, decimal_more, common_steps)

-- A number of one digit ..
pub decimal_one : (n : ℕ) → n < 10 → decimal n ≡ character n ∷ []
decimal_one n h =
    let same : n % 10 ≡ n = omega arith in
    decimal_small n h ∙ ap (λ x. character x ∷ []) same

-- .. of two ..
pub decimal_two : (n : ℕ) → 10 ≤ n → n < 100 → decimal n ≡ character (n / 10) ∷ character (n % 10) ∷ []
decimal_two n l h = decimal_more n l ∙ ap (λ ds. ds ++ character (n % 10) ∷ []) (decimal_one (n / 10) (omega arith))

-- .. and of three.
pub decimal_three : (n : ℕ) → 100 ≤ n → n < 1000 → decimal n ≡ character (n / 100) ∷ character (n / 10 % 10) ∷ character (n % 10) ∷ []
decimal_three n l h =
    let same : n / 10 / 10 ≡ n / 100 = omega arith in
    decimal_more n (omega arith)
    ∙ ap (λ ds. ds ++ character (n % 10) ∷ []) (decimal_two (n / 10) (omega arith) (omega arith))
    ∙ ap (λ x. character x ∷ character (n / 10 % 10) ∷ character (n % 10) ∷ []) same

-- With the usual steps on lists they show that all of a number is appended.
pub ruleset at_once = (decimal_one, decimal_two, decimal_three, common_steps)

-- A word has at most twenty digits.
pub decimal_short : (n : ℕ) → n < 2 ^ 64 → length (decimal n) ≤ 20
decimal_short n h = length-decimal 19 n (omega arith)
