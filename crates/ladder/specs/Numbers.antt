-- "Numbers": words and bits, and the length of every buffer.
-- Assumes nothing.
use Rattle.std.specs.Prelude.{ℕ, zero, suc, ◌+◌, ◌-◌, ◌*◌, ◌/◌, ◌%◌, ◌^◌, length, get_or, take, drop}
use mathlib.Core.List.{List, [], ◌∷◌, map, flatten}
use Rattle.ladder.specs.Lists.{tabulate}

-- ---- words of 64 bits, lowest word first

-- The number that words stand for. The words 5, 1 stand for 2^64 + 5.
unfoldable pub number_of : List ℕ → ℕ
number_of [] = 0
number_of (w ∷ ws) = w + 2 ^ 64 * number_of ws

-- The k lowest words of a number.
unfoldable pub words_of : ℕ → ℕ → List ℕ
words_of zero n = []
words_of (suc k) n = n % 2 ^ 64 ∷ words_of k (n / 2 ^ 64)

-- The d numbers that stand one after the other in words, k words each.
unfoldable pub numbers_of : ℕ → ℕ → List ℕ → List ℕ
numbers_of d k ws = tabulate d (λ j. number_of (take k (drop (j * k) ws)))

-- Numbers laid out one after the other, k words each.
unfoldable pub words_of_all : ℕ → List ℕ → List ℕ
words_of_all k ns = flatten (map (words_of k) ns)

-- ---- bits in bytes

-- Bit number n, counted from the most significant bit of the first byte. Of 72 D8, bits 1, 2 and 3 are 1.
unfoldable pub bit_at : List ℕ → ℕ → ℕ
bit_at bytes n = get_or bytes (n / 8) 0 / 2 ^ (7 - n % 8) % 2

-- The bits of step s (the rules' step s+1) where each step has d: bit k (the rules' bit k+1) is bit number s*d + k. Of 72 D8 with d 2,
-- step 0 has 01.
unfoldable pub bits_at : ℕ → List ℕ → ℕ → List ℕ
bits_at d bytes s = tabulate d (λ k. bit_at bytes (s * d + k))

-- The byte whose bits are the first eight of a list, the most significant first; 0 for each that the list lacks.
unfoldable pub byte_of : List ℕ → ℕ
byte_of bits =
    get_or bits 0 0 * 128 + get_or bits 1 0 * 64 + get_or bits 2 0 * 32 + get_or bits 3 0 * 16
    + get_or bits 4 0 * 8 + get_or bits 5 0 * 4 + get_or bits 6 0 * 2 + get_or bits 7 0

-- The bytes for n bits: ceil(n / 8).
unfoldable pub bytes_for : ℕ → ℕ
bytes_for n = (n + 7) / 8

-- Bits written into bytes; the filling bits of the last byte are 0.
unfoldable pub pack_bits : List ℕ → List ℕ
pack_bits bits = tabulate (bytes_for (length bits)) (λ q. byte_of (drop (8 * q) bits))

-- ---- the length of every buffer, for dimension d and length l

-- Words of a scalar: ceil(l / 64).
unfoldable pub scalar_words : ℕ → ℕ
scalar_words l = (l + 63) / 64

-- Words of a decoded value: floor(l / 64) + 1, because an entry of a row can be 2^l.
unfoldable pub value_words : ℕ → ℕ
value_words l = l / 64 + 1

-- The words of d scalars.
unfoldable pub scalars_length : ℕ → ℕ → ℕ
scalars_length d l = d * scalar_words l

-- The words of d decoded values.
unfoldable pub values_length : ℕ → ℕ → ℕ
values_length d l = d * value_words l

-- The bytes of a start order.
unfoldable pub start_length : ℕ → ℕ
start_length d = d

-- The words of the elements.
unfoldable pub elements_length : ℕ → ℕ
elements_length d = d

-- The words of the registers.
unfoldable pub registers_length : ℕ → ℕ
registers_length d = d + 1

-- The bytes of a plan's bits: ceil(l * d / 8).
unfoldable pub bits_length : ℕ → ℕ → ℕ
bits_length d l = bytes_for (l * d)

-- The bytes of a trace: l * (d + 1) * (d + 2), at most 51,840.
unfoldable pub trace_length : ℕ → ℕ → ℕ
trace_length d l = l * (d + 1) * (d + 2)

-- The bytes of a buffer for a listing: the longest text, of d 8, l 576 and entries of 2^576.
unfoldable pub longest_text : ℕ
longest_text = 8589
