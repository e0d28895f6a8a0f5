-- "Plan file": a body (start order, bits) and a 12-byte trailer at the very end; anything may stand before the body.
-- Assumes nothing.
use Rattle.std.specs.Prelude.{ℕ, ◌+◌, ◌-◌, ◌*◌, ◌/◌, ◌%◌, List, [], ◌∷◌, ◌++◌, length, get_or, take, drop}
use Rattle.ladder.specs.Lists.{joined}
use Rattle.ladder.specs.Numbers.{pack_bits, bits_length}
use Rattle.ladder.specs.Plan.{Plan, step_bits}

-- The four bytes 64 6D 75 6C.
unfoldable pub mark : List ℕ
mark = 0x64 ∷ 0x6d ∷ 0x75 ∷ 0x6c ∷ []

-- The bytes of a trailer.
unfoldable pub trailer_size : ℕ
trailer_size = 12

-- The count of bytes of a body: the start order, then the bits.
unfoldable pub body_length : ℕ → ℕ → ℕ
body_length d l = d + bits_length d l

-- The bytes of a plan file with nothing before its body.
unfoldable pub file_length : ℕ → ℕ → ℕ
file_length d l = body_length d l + trailer_size

-- Byte i of the trailer of a file (bytes from 0).
unfoldable pub trailer_byte : List ℕ → ℕ → ℕ
trailer_byte file i = get_or file (length file - trailer_size + i) 0

-- The trailer's d ..
unfoldable pub d_in : List ℕ → ℕ
d_in file = trailer_byte file 0

-- .. answer row ..
unfoldable pub answer_in : List ℕ → ℕ
answer_in file = trailer_byte file 1

-- .. l, low byte first ..
unfoldable pub l_in : List ℕ → ℕ
l_in file = trailer_byte file 2 + 256 * trailer_byte file 3

-- .. back distance, low byte first: the count of bytes from the trailer's first byte back to the body's first ..
unfoldable pub distance_in : List ℕ → ℕ
distance_in file =
    trailer_byte file 4 + 256 * trailer_byte file 5 + 65536 * trailer_byte file 6 + 16777216 * trailer_byte file 7

-- .. and mark.
unfoldable pub mark_in : List ℕ → List ℕ
mark_in file = drop (length file - 4) file

-- Where the body begins.
unfoldable pub body_place : List ℕ → ℕ
body_place file = length file - trailer_size - distance_in file

-- The body.
unfoldable pub body_in : List ℕ → List ℕ
body_in file = take (distance_in file) (drop (body_place file) file)

-- The plan that a file holds.
unfoldable pub plan_in : List ℕ → Plan
plan_in file = record {
  d = d_in file;
  l = l_in file;
  start = take (d_in file) (body_in file);
  bits = drop (d_in file) (body_in file);
  answer = answer_in file;
}

-- A number as two bytes, low byte first ..
unfoldable pub two_bytes : ℕ → List ℕ
two_bytes n = n % 256 ∷ n / 256 % 256 ∷ []

-- .. and as four.
unfoldable pub four_bytes : ℕ → List ℕ
four_bytes n = two_bytes n ++ two_bytes (n / 65536)

-- The file of a plan, with nothing before the body; its filling bits are 0. For 73, 59 with l 7 it is
-- 01 02 72 D8 02 03 07 00 04 00 00 00 64 6D 75 6C.
unfoldable pub file_of : Plan → List ℕ
file_of p =
    p.start ++ pack_bits (joined p.l (step_bits p))
    ++ (p.d ∷ p.answer ∷ two_bytes p.l ++ four_bytes (body_length p.d p.l) ++ mark)
