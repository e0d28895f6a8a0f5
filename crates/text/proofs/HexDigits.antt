-- The hexadecimal digits of a number in words: where each stands, and how many there are.
-- Assumes nothing.
use Prim.Native.Nat.{ℕ, suc, ◌+◌, ◌-◌, ◌*◌, ◌/◌, ◌%◌, ◌^◌, ◌≤◌, ◌<◌}
use mathlib.Core.Path.{◌≡◌, refl, sym, ap, ◌∙◌}
use mathlib.Core.Logic.{◌≢◌, inl, inr}
use mathlib.Core.List.{List, [], ◌∷◌, ◌++◌}
use native.Mathlib.Nat.{pow-succ', one-le-pow, div-lt_iff_lt-mul, le-div_iff_mul-le}
use native.Mathlib.Omega.{arith}
use lib.ListN.{length, get_or, take, length-map}
use lib.Seq.{take-suc}
use Rattle.ladder.specs.Numbers.{number_of}
use Rattle.ladder.specs.Listing.{digits_of, character, hexadecimal}
use Rattle.ladder.proofs.Lists.{get_or-map}
use Rattle.ladder.proofs.Numbers.{number_of_below}
use Rattle.ladder.proofs.Texts.{hex_power}
use Rattle.ladder.proofs.Numerals.{digits_count, digits_length, digits_nth}
use Rattle.ladder.proofs.Fields.{number_field}

-- Digit i, from the lowest, stands in word i / 16.
pub hex_digit : (ws : List ℕ) → ((i : ℕ) → get_or ws i 0 < 2 ^ 64) → (i : ℕ)
    → get_or ws (i / 16) 0 / 2 ^ (4 * (i % 16)) % 16 ≡ number_of ws / 16 ^ i % 16
hex_digit ws words i =
    let parts : 64 * (i / 16) + 4 * (i % 16) ≡ 4 * i = omega arith in
    sym (number_field ws words (i / 16) (4 * (i % 16)) 4 (omega arith))
    ∙ ap (λ m. number_of ws / m % 16) (ap (λ e. 2 ^ e) parts ∙ sym (hex_power i))

length-hexadecimal : (n : ℕ) → length (hexadecimal n) ≡ length (digits_of 16 n)
unfolding hexadecimal
length-hexadecimal n = length-map (digits_of 16 n) character

-- There are no digits but the lowest n.
pub record Above (ws : List ℕ) (n : ℕ) : Type 0 where
  pub low : 1 ≤ n
  pub high : n ≤ 16 * length ws
  pub below : number_of ws < 16 ^ n

-- Words have 16 digits each.
pub above_start : (ws : List ℕ) → ((i : ℕ) → get_or ws i 0 < 2 ^ 64) → 1 ≤ length ws → Above ws (16 * length ws)
above_start ws words some =
    let all : 64 * length ws ≡ 4 * (16 * length ws) = omega arith in
    record {
      low = omega arith;
      high = omega arith;
      below = rw (hex_power (16 * length ws), ← all) (number_of_below (length ws) ws refl words);
    }

module _ {ws : List ℕ} {n : ℕ} (w : Above ws n) where
  last : suc (n - 1) ≡ n
  last = omega (arith, w.low)

  pos : 0 < 16 ^ (n - 1)
  pos = one-le-pow (n - 1) 16 (omega arith)

  top : number_of ws / 16 ^ (n - 1) < 16
  top =
      (div-lt_iff_lt-mul {k = 16 ^ (n - 1)} {x = number_of ws} {y = 16} pos).1
      (omega (arith, w.below, ap (λ e. 16 ^ e) last, pow-succ' 16 (n - 1)))

  -- Where the highest is 0, there is one less ..
  pub above_next : 1 < n → number_of ws / 16 ^ (n - 1) % 16 ≡ 0 → Above ws (n - 1)
  above_next h e = record {
    low = omega arith;
    high = omega (arith, w.high);
    below =
        omega (
          arith,
          (div-lt_iff_lt-mul {k = 16 ^ (n - 1)} {x = number_of ws} {y = 1} pos).0 (omega (arith, top)),
        );
  }

  -- .. and where it is not, it is the first.
  pub above_found : number_of ws / 16 ^ (n - 1) % 16 ≢ 0 → n ≡ length (hexadecimal (number_of ws))
  above_found h =
      sym
      (length-hexadecimal (number_of ws)
      ∙ digits_count 16 (omega arith) (n - 1) (number_of ws) (rw last w.below)
      (inr (omega (arith, (le-div_iff_mul-le {k = 16 ^ (n - 1)} {x = 1} {y = number_of ws} pos).0 (omega arith))))
      ∙ last)

  -- One digit is the only one.
  pub above_end : n ≤ 1 → 1 ≡ length (hexadecimal (number_of ws))
  above_end h =
      let one : n ≡ 1 = omega (arith, w.low) in
      sym
      (length-hexadecimal (number_of ws)
      ∙ digits_count 16 (omega arith) 0 (number_of ws) (rw one at w.below) (inl refl))

-- Words have no more digits than 16 each.
pub hex_within : (ws : List ℕ) → ((i : ℕ) → get_or ws i 0 < 2 ^ 64) → 1 ≤ length ws
    → length (hexadecimal (number_of ws)) ≤ 16 * length ws
hex_within ws words some =
    let all = above_start ws words some in
    omega (
      arith,
      length-hexadecimal (number_of ws),
      digits_length 16 (omega arith) (16 * length ws - 1) (number_of ws) (rw (last all) all.below),
    )

-- The characters of the digits down to digit i, from the lowest, and that of the next.
pub hex_next : (n i : ℕ) → 1 ≤ i → i ≤ length (hexadecimal n)
    → take (length (hexadecimal n) - (i - 1)) (hexadecimal n)
    ≡ take (length (hexadecimal n) - i) (hexadecimal n) ++ character (n / 16 ^ (i - 1) % 16) ∷ []
unfolding hexadecimal
hex_next n i low high =
    let long = length-hexadecimal n in
    let j = length (hexadecimal n) - i in
    let more : length (hexadecimal n) - (i - 1) ≡ suc j = omega arith in
    let here : j < length (digits_of 16 n) = omega arith in
    let place : length (digits_of 16 n) - 1 - j ≡ i - 1 = omega arith in
    ap (λ k. take k (hexadecimal n)) more ∙ take-suc (hexadecimal n) j 0 (omega arith)
    ∙ ap (λ x. take j (hexadecimal n) ++ x ∷ [])
    (get_or-map character (digits_of 16 n) j 0 0 here
    ∙ ap character (digits_nth 16 (omega arith) n j here ∙ ap (λ k. n / 16 ^ k % 16) place))
