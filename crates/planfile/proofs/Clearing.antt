-- Bytes whose filling bits are cleared are packed from their own bits.
-- Assumes nothing.
use Prim.Native.Nat.{ℕ, suc, ◌+◌, ◌-◌, ◌*◌, ◌/◌, ◌%◌, ◌^◌, ◌≤◌, ◌<◌}
use mathlib.Core.Path.{◌≡◌, sym, ap, ap₂, ◌∙◌}
use mathlib.Core.Logic.{◌≢◌}
use mathlib.Core.List.{List}
use native.Mathlib.Decide.{ℕ_discrete}
use native.Mathlib.Nat.{mul_assoc, pow-suc, mul-mod_left, zero-div}
use native.Mathlib.Omega.{arith}
use lib.ListN.{length, get_or, set, length-set, get_or-eq_default}
use lib.Pow.{pow-add, split, shl-shr, shr-shr}
use lib.Seq.{get_or-set_same, get_or-set_other}
use Rattle.ladder.specs.Lists.{tabulate}
use Rattle.ladder.specs.Numbers.{bit_at, bytes_for, pack_bits}
use Rattle.ladder.proofs.Lists.{tabulate-same}
use Rattle.ladder.proofs.Bits.{pack_bits_of}

-- ---- a byte without its lowest f bits

-- It is a multiple of 2^f.
whole : (b f : ℕ) → b - b % 2 ^ f ≡ b / 2 ^ f * 2 ^ f
whole b f = omega (arith, split b f)

-- The bits above them stay ..
bit_stays : (b f k : ℕ) → f ≤ k → (b - b % 2 ^ f) / 2 ^ k % 2 ≡ b / 2 ^ k % 2
bit_stays b f k h =
    let up : f + (k - f) ≡ k = omega arith in
    ap (λ n. n % 2)
    (ap₂ (λ n m. n / 2 ^ m) (whole b f) (sym up)
    ∙ sym (shr-shr (b / 2 ^ f * 2 ^ f) f (k - f))
    ∙ ap (λ n. n / 2 ^ (k - f)) (shl-shr (b / 2 ^ f) f)
    ∙ shr-shr b f (k - f)
    ∙ ap (λ m. b / 2 ^ m) up)

-- .. and they are 0.
bit_cleared : (b f k : ℕ) → k < f → (b - b % 2 ^ f) / 2 ^ k % 2 ≡ 0
bit_cleared b f k h =
    let j = f - suc k in
    let up : f ≡ suc j + k = omega arith in
    let q = b / 2 ^ f in
    ap (λ n. n / 2 ^ k % 2) (whole b f ∙ ap (λ m. q * 2 ^ m) up ∙ ap (λ m. q * m) (pow-add 2 (suc j) k) ∙ sym (mul_assoc q (2 ^ suc j) (2 ^ k)))
    ∙ ap (λ n. n % 2) (shl-shr (q * 2 ^ suc j) k ∙ ap (λ m. q * m) (pow-suc 2 j) ∙ sym (mul_assoc q (2 ^ j) 2))
    ∙ mul-mod_left (q * 2 ^ j) 2

-- ---- bytes whose last is such a byte: n bits, and f to fill them up

-- The bytes without their filling bits.
abbrev pub cleared_bits : List ℕ → ℕ → List ℕ
cleared_bits bits f = let last = length bits - 1 in set bits last (get_or bits last 0 - get_or bits last 0 % 2 ^ f)

module _ (bits : List ℕ) (n f : ℕ) (some : 0 < length bits) (fill : 8 * length bits ≡ n + f) (few : f < 8)
    (small : (i : ℕ) → get_or bits i 0 < 256) where
  abbrev last : ℕ
  last = length bits - 1

  abbrev byte : ℕ
  byte = get_or bits last 0 - get_or bits last 0 % 2 ^ f

  byte_at : get_or (cleared_bits bits f) last 0 ≡ byte
  byte_at = get_or-set_same bits last byte 0 (omega arith)

  byte_other : (q : ℕ) → q ≢ last → get_or (cleared_bits bits f) q 0 ≡ get_or bits q 0
  byte_other q ne = get_or-set_other bits last q byte 0 ne

  bytes_small : (q : ℕ) → get_or (cleared_bits bits f) q 0 < 256
  bytes_small q = go (ℕ_discrete q last)
    where
      go : Dec (q ≡ last) → get_or (cleared_bits bits f) q 0 < 256
      go (yes e) = rw (e, byte_at) (omega (arith, small last))
      go (no ne) = rw (byte_other q ne) (small q)

  bits_stay : (i : ℕ) → i < n → bit_at (cleared_bits bits f) i ≡ bit_at bits i
  unfolding bit_at
  bits_stay i h = go (ℕ_discrete (i / 8) last)
    where
      go : Dec (i / 8 ≡ last) → bit_at (cleared_bits bits f) i ≡ bit_at bits i
      go (yes e) = rw (e, byte_at) (bit_stays (get_or bits last 0) f (7 - i % 8) (omega arith))
      go (no ne) = ap (λ b. b / 2 ^ (7 - i % 8) % 2) (byte_other (i / 8) ne)

  bits_filled : (i : ℕ) → n ≤ i → bit_at (cleared_bits bits f) i ≡ 0
  unfolding bit_at
  bits_filled i h = go (ℕ_discrete (i / 8) last)
    where
      go : Dec (i / 8 ≡ last) → bit_at (cleared_bits bits f) i ≡ 0
      go (yes e) = rw (e, byte_at) (bit_cleared (get_or bits last 0) f (7 - i % 8) (omega arith))
      go (no ne) =
          ap (λ b. b / 2 ^ (7 - i % 8) % 2)
          (byte_other (i / 8) ne ∙ get_or-eq_default bits 0 (omega arith)) ∙ ap (λ b. b % 2) (zero-div (2 ^ (7 - i % 8)))

  pub cleared_packed : cleared_bits bits f ≡ pack_bits (tabulate n (bit_at bits))
  cleared_packed =
      sym (pack_bits_of (cleared_bits bits f) n bytes_small (unfold bytes_for in omega (arith, length-set bits last byte)) bits_filled)
      ∙ ap pack_bits (tabulate-same n (bit_at (cleared_bits bits f)) (bit_at bits) bits_stay)
