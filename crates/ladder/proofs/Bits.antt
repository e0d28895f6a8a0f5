-- Laws of bits in bytes: what is packed is read back, step by step too, and bytes and their bits decide each other.
-- Assumes nothing.
use Prim.Native.Nat.{ℕ, zero, suc, ◌+◌, ◌-◌, ◌*◌, ◌/◌, ◌%◌, ◌^◌, ◌≤◌, ◌<◌}
use mathlib.Core.Path.{◌≡◌, refl, sym, ap, ap₂, ◌∙◌}
use mathlib.Core.Logic.{◌↔◌}
use mathlib.Core.List.{List, ◌++◌}
use native.Mathlib.Nat.{not-suc-le-zero, div-add-mod, div-div-eq-div-mul, pow-succ', two-pow-succ, zero-mul, suc-mul, mul-le-mul, mul-le-mul_right}
use native.Mathlib.Decide.{dec_lt}
use native.Mathlib.Omega.{arith}
use lib.Arith.{digits_lt}
use lib.ListN.{length, get_or, drop, drop_of_length-le, get_or-eq_default, get_or-append}
use lib.Seq.{get_or-append-add, get_or-drop, ext_get_or}
use Rattle.ladder.specs.Lists.{tabulate, joined}
use Rattle.ladder.specs.Numbers.{bit_at, byte_of, bytes_for, pack_bits, bits_at, bits_length}
use Rattle.ladder.specs.Plan.{Plan, step_bits}
use Rattle.ladder.proofs.Lists.{length-tabulate, get_or-tabulate, tabulate-same, tabulate-get_or, tabulate_add, append_below, length-joined}
use Rattle.ladder.proofs.Numbers.{tabulate_below, drop_below}

-- ---- a byte and its bits

-- Eight bits make a byte.
byte_of_below : (bits : List ℕ) → ((i : ℕ) → get_or bits i 0 < 2) → byte_of bits < 256
unfolding byte_of
byte_of_below bits h = omega (arith, h 0, h 1, h 2, h 3, h 4, h 5, h 6, h 7)

-- Bit r of the byte of a list is element r.
byte_of_bit : (bits : List ℕ) → ((i : ℕ) → get_or bits i 0 < 2) → (r : ℕ) → r < 8 → byte_of bits / 2 ^ (7 - r) % 2 ≡ get_or bits r 0
unfolding byte_of
byte_of_bit bits h r l = go (h 0) (h 1) (h 2) (h 3) (h 4) (h 5) (h 6) (h 7) r l
  where
    go : get_or bits 0 0 < 2 → get_or bits 1 0 < 2 → get_or bits 2 0 < 2 → get_or bits 3 0 < 2
        → get_or bits 4 0 < 2 → get_or bits 5 0 < 2 → get_or bits 6 0 < 2 → get_or bits 7 0 < 2
        → (r : ℕ) → r < 8 → byte_of bits / 2 ^ (7 - r) % 2 ≡ get_or bits r 0
    go a b c d e f g h zero l = omega arith
    go a b c d e f g h (suc zero) l = omega arith
    go a b c d e f g h (suc (suc zero)) l = omega arith
    go a b c d e f g h (suc (suc (suc zero))) l = omega arith
    go a b c d e f g h (suc (suc (suc (suc zero)))) l = omega arith
    go a b c d e f g h (suc (suc (suc (suc (suc zero))))) l = omega arith
    go a b c d e f g h (suc (suc (suc (suc (suc (suc zero)))))) l = omega arith
    go a b c d e f g h (suc (suc (suc (suc (suc (suc (suc zero))))))) l = omega arith
    go a b c d e f g h (suc (suc (suc (suc (suc (suc (suc (suc r)))))))) l = absurd (omega arith)

-- Two numbers of k bits with the same bits are the same.
same_bits : (k a b : ℕ) → a < 2 ^ k → b < 2 ^ k → ((j : ℕ) → j < k → a / 2 ^ j % 2 ≡ b / 2 ^ j % 2) → a ≡ b
same_bits zero a b ha hb e = omega arith
same_bits (suc k) a b ha hb e =
    omega (
      arith,
      e zero (omega arith),
      same_bits k (a / 2) (b / 2) (omega (arith, two-pow-succ k)) (omega (arith, two-pow-succ k))
          (λ j h. ap (λ m. m % 2) (half j a) ∙ e (suc j) (omega arith) ∙ ap (λ m. m % 2) (sym (half j b))),
    )
  where
    half : (j n : ℕ) → n / 2 / 2 ^ j ≡ n / 2 ^ suc j
    half j n = div-div-eq-div-mul n 2 (2 ^ j) ∙ ap (λ m. n / m) (sym (pow-succ' 2 j))

-- A bit is 0 or 1.
pub bit_at_below : (bytes : List ℕ) (n : ℕ) → bit_at bytes n < 2
unfolding bit_at
bit_at_below bytes n = omega arith

-- Bit r of byte q.
pub bit_at_byte : (bytes : List ℕ) (q r : ℕ) → r < 8 → bit_at bytes (8 * q + r) ≡ get_or bytes q 0 / 2 ^ (7 - r) % 2
unfolding bit_at
bit_at_byte bytes q r h =
    ap₂ (λ a b. get_or bytes a 0 / 2 ^ (7 - b) % 2) {x = (8 * q + r) / 8} {y = q} {u = (8 * q + r) % 8} {v = r} (omega arith) (omega arith)

-- The bits of the first of two lists of bytes come first.
pub bit_at-append : (a b : List ℕ) (n : ℕ) → n < 8 * length a → bit_at (a ++ b) n ≡ bit_at a n
unfolding bit_at
bit_at-append a b n h = ap (λ c. c / 2 ^ (7 - n % 8) % 2) (get_or-append a b 0 (n / 8) (omega arith))

-- ---- bits packed

-- Bits are packed into as many bytes as they want.
pub length-pack_bits : (bits : List ℕ) → length (pack_bits bits) ≡ bytes_for (length bits)
unfolding pack_bits
length-pack_bits bits = length-tabulate (bytes_for (length bits)) _

-- Byte q is made of the bits from 8q on; past the end it is 0.
get_or-pack_bits : (bits : List ℕ) (q : ℕ) → get_or (pack_bits bits) q 0 ≡ byte_of (drop (8 * q) bits)
unfolding pack_bits
get_or-pack_bits bits q = go (dec_lt q (bytes_for (length bits)))
  where
    go : Dec (q < bytes_for (length bits)) → get_or (pack_bits bits) q 0 ≡ byte_of (drop (8 * q) bits)
    go (yes h) = get_or-tabulate (bytes_for (length bits)) (λ k. byte_of (drop (8 * k) bits)) q 0 h
    go (no h) =
        get_or-eq_default (pack_bits bits) 0 (omega (arith, length-pack_bits bits))
        ∙ unfold byte_of bytes_for in rw (drop_of_length-le bits {i = 8 * q} (omega arith)) refl

-- A packed byte is below 256.
pub pack_bits_below : (bits : List ℕ) → ((i : ℕ) → get_or bits i 0 < 2) → (q : ℕ) → get_or (pack_bits bits) q 0 < 256
pack_bits_below bits h q = rw (get_or-pack_bits bits q) (byte_of_below (drop (8 * q) bits) (drop_below 2 (8 * q) bits h))

-- Packed bits are read back; past them every bit is 0.
pub bit_at-pack_bits : (bits : List ℕ) → ((i : ℕ) → get_or bits i 0 < 2) → (n : ℕ) → bit_at (pack_bits bits) n ≡ get_or bits n 0
unfolding bit_at
bit_at-pack_bits bits h n =
    ap (λ b. b / 2 ^ (7 - n % 8) % 2) (get_or-pack_bits bits (n / 8))
    ∙ byte_of_bit (drop (8 * (n / 8)) bits) (drop_below 2 (8 * (n / 8)) bits h) (n % 8) (omega arith)
    ∙ get_or-drop (8 * (n / 8)) bits (n % 8) 0
    ∙ ap (λ i. get_or bits i 0) (div-add-mod n 8)

-- Two bytes with the same bits are the same ..
same_byte : (a b : List ℕ) (q : ℕ) → get_or a q 0 < 256 → get_or b q 0 < 256
    → ((r : ℕ) → r < 8 → bit_at a (8 * q + r) ≡ bit_at b (8 * q + r)) → get_or a q 0 ≡ get_or b q 0
same_byte a b q ha hb p = same_bits 8 (get_or a q 0) (get_or b q 0) ha hb bit
  where
    bit : (j : ℕ) → j < 8 → get_or a q 0 / 2 ^ j % 2 ≡ get_or b q 0 / 2 ^ j % 2
    bit j h =
        let back : 7 - (7 - j) ≡ j = omega arith in
        rw back at (sym (bit_at_byte a q (7 - j) (omega arith)) ∙ p (7 - j) (omega arith) ∙ bit_at_byte b q (7 - j) (omega arith))

-- .. and so are two lists of as many.
pub bytes_unique : (a b : List ℕ) → length a ≡ length b → ((i : ℕ) → get_or a i 0 < 256) → ((i : ℕ) → get_or b i 0 < 256)
    → ((n : ℕ) → bit_at a n ≡ bit_at b n) → a ≡ b
bytes_unique a b e ha hb p = ext_get_or 0 a b e (λ q l. same_byte a b q (ha q) (hb q) (λ r h. p (8 * q + r)))

-- Bytes are packed from their own bits, where the filling bits are 0.
pub pack_bits_of : (bytes : List ℕ) (n : ℕ) → ((i : ℕ) → get_or bytes i 0 < 256) → length bytes ≡ bytes_for n
    → ((i : ℕ) → n ≤ i → bit_at bytes i ≡ 0) → pack_bits (tabulate n (bit_at bytes)) ≡ bytes
pack_bits_of bytes n h e z =
    bytes_unique (pack_bits (tabulate n (bit_at bytes))) bytes
    (length-pack_bits (tabulate n (bit_at bytes)) ∙ ap bytes_for (length-tabulate n (bit_at bytes)) ∙ sym e)
    (pack_bits_below (tabulate n (bit_at bytes)) bits) h
    (λ i. bit_at-pack_bits (tabulate n (bit_at bytes)) bits i ∙ go i (dec_lt i n))
  where
    bits : (i : ℕ) → get_or (tabulate n (bit_at bytes)) i 0 < 2
    bits = tabulate_below 2 n (bit_at bytes) (omega arith) (λ k l. bit_at_below bytes k)

    go : (i : ℕ) → Dec (i < n) → get_or (tabulate n (bit_at bytes)) i 0 ≡ bit_at bytes i
    go i (yes l) = get_or-tabulate n (bit_at bytes) i 0 l
    go i (no l) =
        get_or-eq_default (tabulate n (bit_at bytes)) 0 (omega (arith, length-tabulate n (bit_at bytes)))
        ∙ sym (z i (omega arith))

-- ---- the bits of steps

-- Element k of list s, in lists of d elements that are joined.
pub get_or-joined : (d l : ℕ) (f : ℕ → List ℕ) → ((s : ℕ) → s < l → length (f s) ≡ d)
    → (s k : ℕ) → s < l → k < d → get_or (joined l f) (s * d + k) 0 ≡ get_or (f s) k 0
unfolding joined
get_or-joined d zero f e s k h g = absurd (not-suc-le-zero h)
get_or-joined d (suc l) f e s k h g = go (dec_lt s l) (λ m. get_or-joined d l f before s k m g)
  where
    before : (s : ℕ) → s < l → length (f s) ≡ d
    before s m = e s (omega arith)

    go : Dec (s < l) → (s < l → get_or (joined l f) (s * d + k) 0 ≡ get_or (f s) k 0)
        → get_or (joined l f ++ f l) (s * d + k) 0 ≡ get_or (f s) k 0
    go (yes m) earlier =
        get_or-append (joined l f) (f l) 0 (s * d + k) (omega (arith, length-joined d l f before, digits_lt m g)) ∙ earlier m
    go (no m) earlier =
        let last : s ≡ l = omega arith in
        rw (last, ← length-joined d l f before) (get_or-append-add (joined l f) (f l) k 0)

-- Where the elements of each list are below a bound, so are those of all.
pub joined_below : (b l : ℕ) (f : ℕ → List ℕ) → 0 < b → ((s k : ℕ) → get_or (f s) k 0 < b) → (i : ℕ) → get_or (joined l f) i 0 < b
unfolding joined
joined_below b zero f p h i = p
joined_below b (suc l) f p h i = append_below b (joined l f) (f l) (joined_below b l f p h) (h l) i

-- The bits of step s, in packed bits.
pub step_of_packed : (d l : ℕ) (f : ℕ → List ℕ) → ((s : ℕ) → s < l → length (f s) ≡ d) → ((s k : ℕ) → get_or (f s) k 0 < 2)
    → (s : ℕ) → s < l → tabulate d (λ k. bit_at (pack_bits (joined l f)) (s * d + k)) ≡ f s
step_of_packed d l f e h s m =
    tabulate-same d _ (λ k. get_or (f s) k 0)
    (λ k g. bit_at-pack_bits (joined l f) (joined_below 2 l f (omega arith) h) (s * d + k) ∙ get_or-joined d l f e s k m g)
    ∙ ap (λ n. tabulate n (λ k. get_or (f s) k 0)) (sym (e s m))
    ∙ tabulate-get_or (f s) 0

-- The steps of lent bytes have d bits each ..
pub length-bits_at : (d : ℕ) (bytes : List ℕ) (s : ℕ) → length (bits_at d bytes s) ≡ d
unfolding bits_at
length-bits_at d bytes s = length-tabulate d _

-- .. which lie in the bytes.
pub bits_room : (d l s n : ℕ) → s < l → n ≡ bits_length d l → s * d + d ≤ 8 * n
unfolding bits_length bytes_for
bits_room d l s n h e = omega (arith, mul-le-mul_right d h, suc-mul s d)

-- .. as all of them do.
pub bits_within : (d l n : ℕ) {k : ℕ} → k ≡ bits_length d l → n < l * d → n < 8 * k
unfolding bits_length bytes_for
bits_within d l n e h = omega arith

-- The bits of a plan's step are 0 or 1.
pub step_bits_below : (p : Plan) (s k : ℕ) → get_or (step_bits p s) k 0 < 2
unfolding bits_at
step_bits_below p s = tabulate_below 2 p.d _ (omega arith) (λ k h. bit_at_below p.bits (s * p.d + k))

-- A step has d bits.
pub length-step_bits : (p : Plan) (s : ℕ) → length (step_bits p s) ≡ p.d
length-step_bits p s = length-bits_at p.d p.bits s

-- The bits of all steps, one after the other, are the bits in number order.
pub bits_in_order : (bytes : List ℕ) (d l : ℕ)
    → joined l (λ s. tabulate d (λ k. bit_at bytes (s * d + k))) ≡ tabulate (l * d) (bit_at bytes)
unfolding joined tabulate
bits_in_order bytes d zero = sym (ap (λ n. tabulate n (bit_at bytes)) (zero-mul d))
bits_in_order bytes d (suc l) =
    ap (λ b. b ++ tabulate d (λ k. bit_at bytes (l * d + k))) (bits_in_order bytes d l)
    ∙ sym (tabulate_add (l * d) d (bit_at bytes))
    ∙ ap (λ n. tabulate n (bit_at bytes)) (sym (suc-mul l d))

-- The bits of a plan are at most 4,608.
pub bits_bound : (d l : ℕ) → d ≤ 8 → l ≤ 576 → l * d ≤ 4608
bits_bound d l h g = omega (arith, mul-le-mul {n₁ = l} {m₁ = d} {n₂ = 576} {m₂ = 8} g h)

-- ---- the bits of a plan, packed

module _ (bytes : List ℕ) (d l : ℕ) where
  packed_at : (n : ℕ) → bit_at (pack_bits (joined l (bits_at d bytes))) n ≡ get_or (tabulate (l * d) (bit_at bytes)) n 0
  unfolding bits_at
  packed_at n =
      ap (λ b. bit_at (pack_bits b) n) (bits_in_order bytes d l)
      ∙ bit_at-pack_bits (tabulate (l * d) (bit_at bytes)) (tabulate_below 2 (l * d) (bit_at bytes) (omega arith) (λ k h. bit_at_below bytes k)) n

  packed_small : (q : ℕ) → get_or (pack_bits (joined l (bits_at d bytes))) q 0 < 256
  unfolding bits_at
  packed_small =
      pack_bits_below (joined l (bits_at d bytes))
      (joined_below 2 l (bits_at d bytes) (omega arith) (λ s. tabulate_below 2 d _ (omega arith) (λ k h. bit_at_below bytes (s * d + k))))

  -- The bits of all steps are packed as they are ..
  pub packed_bit : (n : ℕ) → n < l * d → bit_at (pack_bits (joined l (bits_at d bytes))) n ≡ bit_at bytes n
  packed_bit n h = packed_at n ∙ get_or-tabulate (l * d) (bit_at bytes) n 0 h

  -- .. and are filled with 0.
  pub packed_filling : (n : ℕ) → l * d ≤ n → bit_at (pack_bits (joined l (bits_at d bytes))) n ≡ 0
  packed_filling n h =
      packed_at n ∙ get_or-eq_default (tabulate (l * d) (bit_at bytes)) 0 (omega (arith, length-tabulate (l * d) (bit_at bytes)))

  -- A byte of plan bits alone is packed as it is.
  pub packed_byte : ((i : ℕ) → get_or bytes i 0 < 256) → (q : ℕ) → 8 * q + 8 ≤ l * d
      → get_or (pack_bits (joined l (bits_at d bytes))) q 0 ≡ get_or bytes q 0
  packed_byte small q h =
      same_byte (pack_bits (joined l (bits_at d bytes))) bytes q (packed_small q) (small q) (λ r k. packed_bit (8 * q + r) (omega arith))

  -- So lent bytes are what is packed of them exactly where their filling bits are 0.
  pub packed_same : ((i : ℕ) → get_or bytes i 0 < 256) → length bytes ≡ bits_length d l
      → pack_bits (joined l (bits_at d bytes)) ≡ bytes ↔ ((n : ℕ) → l * d ≤ n → bit_at bytes n ≡ 0)
  unfolding bits_at bits_length
  packed_same small e = (
    λ same n h. ap (λ b. bit_at b n) (sym same) ∙ packed_filling n h,
    λ z. ap pack_bits (bits_in_order bytes d l) ∙ pack_bits_of bytes (l * d) small e z,
  )
