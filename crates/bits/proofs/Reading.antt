-- How the bits of a step, as one number, are taken out of two neighbouring bytes.
-- Assumes nothing.
use Prim.Native.Nat.{ℕ, suc, ◌+◌, ◌-◌, ◌*◌, ◌/◌, ◌%◌, ◌^◌, ◌≤◌, ◌<◌}
use mathlib.Core.Path.{◌≡◌, sym, ap, ◌∙◌}
use mathlib.Core.List.{List}
use native.Mathlib.Nat.{mod-lt}
use native.Mathlib.Decide.{dec_lt}
use native.Mathlib.Omega.{arith}
use lib.ListN.{get_or}
use lib.Pow.{pow_pos, high, shr-shr}
use Rattle.ladder.specs.Numbers.{bit_at, bits_at}
use Rattle.ladder.specs.Walk.{bits_of}
use Rattle.ladder.proofs.Lists.{tabulate-same}
use Rattle.ladder.proofs.Fields.{low_bit}
use Rattle.ladder.proofs.Bits.{bit_at_byte}
use Rattle.ladder.proofs.Walk.{bit_below}
use Rattle.bits.specs.ReadBits.{ReadBits}

-- Two bytes as one number: bit i, the most significant first, is that of the first byte ..
first_of_two : (hi lo i : ℕ) → lo < 256 → i < 8 → (hi * 256 + lo) / 2 ^ (15 - i) % 2 ≡ hi / 2 ^ (7 - i) % 2
first_of_two hi lo i small h =
    let place : 15 - i ≡ 8 + (7 - i) = omega arith in
    rw place
    (ap (λ m. m % 2) (sym (shr-shr (hi * 256 + lo) 8 (7 - i)) ∙ ap (λ m. m / 2 ^ (7 - i)) (high hi 8 small)))

-- .. or from 8 on of the second.
second_of_two : (hi lo i : ℕ) → lo < 256 → i < 8 → (hi * 256 + lo) / 2 ^ (15 - (8 + i)) % 2 ≡ lo / 2 ^ (7 - i) % 2
second_of_two hi lo i small h =
    let place : 15 - (8 + i) ≡ 7 - i = omega arith in
    rw place (bit_below hi lo 8 (7 - i) small (omega arith))

module _ (bytes : List ℕ) (hi lo q : ℕ) (is-high : hi ≡ get_or bytes q 0) (is-low : lo ≡ get_or bytes (q + 1) 0) (small : lo < 256) where
  -- So it is bit i of the bytes from byte q on.
  bit_of_two : (i : ℕ) → i < 16 → (hi * 256 + lo) / 2 ^ (15 - i) % 2 ≡ bit_at bytes (8 * q + i)
  bit_of_two i h = go (dec_lt i 8)
    where
      go : Dec (i < 8) → (hi * 256 + lo) / 2 ^ (15 - i) % 2 ≡ bit_at bytes (8 * q + i)
      go (yes l) =
          first_of_two hi lo i small l ∙ ap (λ b. b / 2 ^ (7 - i) % 2) is-high ∙ sym (bit_at_byte bytes q i l)
      go (no l) =
          let k = i - 8 in
          let e : i ≡ 8 + k = omega arith in
          let n : 8 * q + (8 + k) ≡ 8 * (q + 1) + k = omega arith in
          rw e
          (second_of_two hi lo k small (omega arith) ∙ ap (λ b. b / 2 ^ (7 - k) % 2) is-low
          ∙ sym (ap (bit_at bytes) n ∙ bit_at_byte bytes (q + 1) k (omega arith)))

  -- The d bits from bit `first` of the first byte on.
  pub read_two : (d s first : ℕ) → d ≤ 8 → first < 8 → s * d ≡ 8 * q + first
      → ReadBits d s bytes ((hi * 256 + lo) / 2 ^ (16 - first - d) % 2 ^ d)
  unfolding bits_of bits_at
  read_two d s first h f e = record {
    bits = tabulate-same d _ _ bit;
    below = mod-lt _ (pow_pos d);
  }
    where
      bit : (k : ℕ) → k < d → (hi * 256 + lo) / 2 ^ (16 - first - d) % 2 ^ d / 2 ^ (d - suc k) % 2 ≡ bit_at bytes (s * d + k)
      bit k l =
          let place : 16 - first - d + (d - suc k) ≡ 15 - (first + k) = omega arith in
          let n : 8 * q + (first + k) ≡ s * d + k = omega arith in
          sym (low_bit ((hi * 256 + lo) / 2 ^ (16 - first - d)) d (d - suc k) (omega arith))
          ∙ ap (λ m. m % 2) (shr-shr (hi * 256 + lo) (16 - first - d) (d - suc k))
          ∙ ap (λ i. (hi * 256 + lo) / 2 ^ i % 2) place
          ∙ bit_of_two (first + k) (omega arith)
          ∙ ap (bit_at bytes) n
