-- Laws of bits that are written into bytes from the last to the first.
-- Assumes nothing.
use Prim.Native.Nat.{ℕ, zero, suc, ◌+◌, ◌-◌, ◌*◌, ◌/◌, ◌%◌, ◌^◌, ◌≤◌, ◌<◌}
use mathlib.Core.Path.{◌≡◌, refl, sym, ap, ap₂, ◌∙◌}
use mathlib.Core.List.{List, [], ◌∷◌, ◌++◌, map, flatten, append_assoc}
use native.Mathlib.Omega.{arith}
use native.Mathlib.Nat.{div-add-mod', zero-div}
use lib.ListN.{length, get_or, take, drop, set, replicate, length-set, get_or-append}
use lib.Seq.{set_split, drop_at, length-take-le, get_or-append-add}
use lib.Arith.{digits_lt}
use lib.Pow.{pow-add, shr_lt, shl_exact}
use Rattle.ladder.specs.Numbers.{bit_at, bytes_for, pack_bits}
use Rattle.ladder.specs.Lists.{tabulate}
use Rattle.ladder.specs.Walk.{bits_of}
use Rattle.ladder.proofs.Lists.{get_or_zeros}
use Rattle.ladder.proofs.Bits.{length-pack_bits, pack_bits_below, bit_at-pack_bits, bytes_unique, bit_at_byte}
use Rattle.encode.specs.declared.packing.Packer.{Packer}
use Rattle.encode.specs.Inner.Packing.{bits_in, Room, Put}
use Rattle.ladder.proofs.Walk.{length-bits_of, get_or-bits_of}
use Rattle.encode.proofs.Digits.{bits_of-append}

-- The bits of bytes, one after the other.
abbrev bits_of_bytes : List ℕ → List ℕ
bits_of_bytes bytes = flatten (map (bits_of 8) bytes)

-- ---- one number put before what is written

module _ (p : Packer) (d r : ℕ) (room : Room p d r) where
  -- The number that is held then.
  abbrev filled : ℕ
  filled = p.fill + r * 2 ^ p.held

  -- It has held + d bits.
  filled_below : filled < 2 ^ (p.held + d)
  filled_below =
      let e : p.held + d ≡ d + p.held = omega arith in
      rw (e, pow-add 2 d p.held) (omega (arith, digits_lt room.fits room.state.small))

  filled_bits : bits_of (p.held + d) filled ≡ bits_of d r ++ bits_of p.held p.fill
  filled_bits =
      let e : p.held + d ≡ d + p.held = omega arith in
      let f : filled ≡ r * 2 ^ p.held + p.fill = omega arith in
      ap₂ bits_of e f ∙ bits_of-append d p.held r p.fill room.state.small

  -- The shift loses nothing.
  pub shifted : r * 2 ^ p.held % 2 ^ 64 ≡ r * 2 ^ p.held
  shifted = shl_exact d p.held 64 room.fits (omega (arith, room.d_high, room.state.few))

  -- Where no byte is finished, more is held ..
  pub put_held : (q : Packer) → p.held + d < 8 → q.at ≡ p.at → q.held ≡ p.held + d → q.fill ≡ filled → q.bytes.now ≡ p.bytes.now → Put p d r q
  unfolding bits_in
  put_held q h at held fill bytes = record {
    state = record {
      few = omega arith;
      small = rw (held, fill) filled_below;
      inside = rw (at, bytes) room.state.inside;
    };
    moved = omega arith;
    long = ap length bytes;
    bits =
        rw (at, held, fill, bytes)
        (ap (λ s. s ++ bits_of_bytes (drop p.at p.bytes.now)) filled_bits
        ∙ append_assoc (bits_of d r) (bits_of p.held p.fill) (bits_of_bytes (drop p.at p.bytes.now)));
  }

  -- .. and a finished byte is written before the others.
  pub put_byte : (q : Packer) → 8 ≤ p.held + d → q.at ≡ p.at - 1 → q.held ≡ p.held + d - 8 → q.fill ≡ filled / 256
      → q.bytes.now ≡ set p.bytes.now (p.at - 1) (filled % 256) → Put p d r q
  unfolding bits_in
  put_byte q h at held fill bytes = record {
    state = record {
      few = omega (arith, room.d_high, room.state.few);
      small = rw (held, fill) (shr_lt (p.held + d - 8) 8 (rw more filled_below));
      inside = omega (arith, long, room.state.inside);
    };
    moved = omega (arith, room.room);
    long = long;
    bits =
        rw (at, held, fill, bytes)
        (ap (λ s. bits_of (p.held + d - 8) (filled / 256) ++ bits_of_bytes s) written
        ∙ unfold flatten in
        sym (append_assoc (bits_of (p.held + d - 8) (filled / 256)) (bits_of 8 (filled % 256)) (bits_of_bytes (drop p.at p.bytes.now)))
        ∙ ap (λ s. s ++ bits_of_bytes (drop p.at p.bytes.now)) all
        ∙ append_assoc (bits_of d r) (bits_of p.held p.fill) (bits_of_bytes (drop p.at p.bytes.now)));
  }
    where
      more : p.held + d - 8 + 8 ≡ p.held + d
      more = omega arith

      long : length q.bytes.now ≡ length p.bytes.now
      long = ap length bytes ∙ length-set p.bytes.now (p.at - 1) (filled % 256)

      written : drop (p.at - 1) (set p.bytes.now (p.at - 1) (filled % 256)) ≡ filled % 256 ∷ drop p.at p.bytes.now
      written =
          let inside : p.at - 1 < length p.bytes.now = omega (arith, room.room, room.state.inside) in
          let next : suc (p.at - 1) ≡ p.at = omega (arith, room.room) in
          ap (drop (p.at - 1)) (set_split p.bytes.now (p.at - 1) (filled % 256) inside)
          ∙ drop_at (take (p.at - 1) p.bytes.now) (filled % 256 ∷ drop (suc (p.at - 1)) p.bytes.now) (p.at - 1)
          (length-take-le (p.at - 1) p.bytes.now (omega arith))
          ∙ ap (λ n. filled % 256 ∷ drop n p.bytes.now) next

      all : bits_of (p.held + d - 8) (filled / 256) ++ bits_of 8 (filled % 256) ≡ bits_of d r ++ bits_of p.held p.fill
      all =
          sym (bits_of-append (p.held + d - 8) 8 (filled / 256) (filled % 256) (omega arith))
          ∙ ap₂ bits_of more (div-add-mod' filled 256)
          ∙ filled_bits

-- ---- all bits written

-- Bit r of byte q.
get_or_bytes : (bytes : List ℕ) (q r : ℕ) → r < 8 → get_or (bits_of_bytes bytes) (8 * q + r) 0 ≡ get_or bytes q 0 / 2 ^ (7 - r) % 2
unfolding flatten
get_or_bytes [] q r h = sym (ap (λ m. m % 2) (zero-div (2 ^ (7 - r))))
get_or_bytes (b ∷ bytes) zero r h =
    let first : 8 * 0 + r ≡ r = omega arith in
    let place : 8 - suc r ≡ 7 - r = omega arith in
    ap (λ n. get_or (bits_of 8 b ++ bits_of_bytes bytes) n 0) first
    ∙ get_or-append (bits_of 8 b) (bits_of_bytes bytes) 0 r (omega (arith, length-bits_of 8 b))
    ∙ get_or-bits_of 8 b r h
    ∙ ap (λ e. b / 2 ^ e % 2) place
get_or_bytes (b ∷ bytes) (suc q) r h =
    let past : 8 * suc q + r ≡ length (bits_of 8 b) + (8 * q + r) = omega (arith, length-bits_of 8 b) in
    ap (λ n. get_or (bits_of 8 b ++ bits_of_bytes bytes) n 0) past
    ∙ get_or-append-add (bits_of 8 b) (bits_of_bytes bytes) (8 * q + r) 0
    ∙ get_or_bytes bytes q r h

-- Zeros at the end change no bit.
get_or-filled : (J : List ℕ) (n i : ℕ) → get_or (J ++ replicate n 0) i 0 ≡ get_or J i 0
get_or-filled [] n i = get_or_zeros n i
get_or-filled (b ∷ J) n zero = refl
get_or-filled (b ∷ J) n (suc i) = get_or-filled J n i

-- Bytes whose bits are those of a list and filling zeros are the list packed.
pub packed : (p : Packer) (J : List ℕ) (n : ℕ) → p.at ≡ 0 → p.held ≡ 0 → bits_in p ≡ J ++ replicate n 0
    → ((i : ℕ) → get_or p.bytes.now i 0 < 256) → ((i : ℕ) → get_or J i 0 < 2) → length p.bytes.now ≡ bytes_for (length J)
    → p.bytes.now ≡ pack_bits J
unfolding bits_in
packed p J n at held e hb hJ long =
    bytes_unique p.bytes.now (pack_bits J) (long ∙ sym (length-pack_bits J)) hb (pack_bits_below J hJ)
    (λ i. bit i ∙ sym (bit_at-pack_bits J hJ i))
  where
    whole : bits_of_bytes p.bytes.now ≡ J ++ replicate n 0
    whole = unfold bits_of tabulate in rw (at, held) at e

    bit : (i : ℕ) → bit_at p.bytes.now i ≡ get_or J i 0
    bit i =
        let parts : 8 * (i / 8) + i % 8 ≡ i = omega arith in
        rw parts at (
        bit_at_byte p.bytes.now (i / 8) (i % 8) (omega arith)
        ∙ sym (get_or_bytes p.bytes.now (i / 8) (i % 8) (omega arith))
        ∙ ap (λ s. get_or s (8 * (i / 8) + i % 8) 0) whole
        ∙ get_or-filled J n (8 * (i / 8) + i % 8)
        )
