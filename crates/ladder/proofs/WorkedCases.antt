-- The cases that the rules mark P, then Table 4 of the source, and the plans of 2 and of 1 that both have 2 in row 1 (`EndsIn` of
-- Demand2 cites them): one list, one definition of what it is for a case to hold, one claim.
-- Columns and rows of the cases count from 1 where they are bytes or an answer row, as the rules print them.
-- Assumes nothing.
use Prim.Native.Nat.{ℕ, zero, suc, pred, ◌+◌, ◌^◌}
use mathlib.Core.Path.{◌≡◌, refl}
use mathlib.Core.List.{List, [], ◌∷◌, map, flatten}
use lib.ListN.{get_or}
use Rattle.ladder.specs.Lists.{tabulate, joined, same, count, ones, odds, all}
use Rattle.ladder.specs.Numbers.{number_of, bit_at, byte_of, bytes_for, pack_bits, bits_length, bits_at}
use Rattle.ladder.specs.Matrix.{Matrix, add_rows, double_row, bump, rows_from, start_matrix, pairs_from, additions, step, order_from, step_order, matrix_after, order_after}
use Rattle.ladder.specs.Plan.{Plan, plan_lent, start_order, matrix_in, order_in, last_matrix, end_order, answer_row}
use Rattle.ladder.specs.Encoding.{scalar_bit, xor, dealt, deal, picked, passed, rearrange, order_to_go, encoded_start, encoded_bits, encode_with, house_order, encode}
use Rattle.ladder.specs.Trace.{difference, vector_of, operations, entry_of, block, block_in, entries_in, signed_byte, entry_bytes, trace_bytes, doublings, addition_count}
use Rattle.ladder.specs.Registers.{step_registers, registers_after, modulus, sum_of, combination, times_signed, signed_sum, plain_rule, difference_add, difference_rule, start_from, start_registers, plain_registers, difference_registers, answer_register}
use Rattle.ladder.specs.PlanFile.{mark, trailer_size, body_length, trailer_byte, d_in, answer_in, l_in, distance_in, mark_in, body_place, body_in, plan_in, two_bytes, four_bytes, file_of}
use Rattle.ladder.specs.Refusals.{◌then◌, unless, within, dim, len, each_once, is_arrangement, order, answer, same_numbers, trailer, distance, read_refusal, plan_refusal, unpack_refusal, refusing, big, list_refusal}
use Rattle.ladder.specs.Listing.{digits_within, digits_of, character, decimal, hexadecimal, spaced, line, plan_word, start_word, value_word, plan_line, start_line, step_line, value_line, plan_text, listing_text}

pub data Case : Type 0 where
  -- d, l and scalars; start order, bytes and answer row; last rows
  encoding : ℕ → ℕ → List ℕ → List ℕ → List ℕ → ℕ → Matrix → Case
  -- d, l, scalars and end order; start order, bytes and answer row; last rows
  ending : ℕ → ℕ → List ℕ → List ℕ → List ℕ → List ℕ → ℕ → Matrix → Case
  -- a plan file's bytes; its listing
  listing : List ℕ → List ℕ → Case
  -- d, l and scalars; the trace's bytes, doublings and additions
  tracing : ℕ → ℕ → List ℕ → List ℕ → ℕ → ℕ → Case
  -- d, l and scalars; modulus and elements; end registers and answer, by both rules
  running : ℕ → ℕ → List ℕ → ℕ → List ℕ → List ℕ → ℕ → Case
  -- d, l and scalars; the plan file
  packing : ℕ → ℕ → List ℕ → List ℕ → Case
  -- words; the number that they stand for
  wording : List ℕ → ℕ → Case
  -- a matrix, bits, and the matrix after the step
  stepping : Matrix → List ℕ → Matrix → Case

-- The plan of scalars is as it is written down, has these last rows, and decodes to the scalars.
abbrev pub Encodes : Plan → List ℕ → Plan → Matrix → Type 0
Encodes p scalars written last = (p ≡ written) × (last_matrix p ≡ last) × (answer_row p ≡ scalars)

abbrev pub Holds : Case → Type 0
Holds (encoding d l scalars start bits answer last) =
    Encodes (encode d l scalars) scalars (plan_lent d l start bits answer) last
Holds (ending d l scalars order start bits answer last) =
    Encodes (encode_with d l scalars (map pred order)) scalars (plan_lent d l start bits answer) last
Holds (listing file text) = listing_text file ≡ text
Holds (tracing d l scalars bytes doubled added) =
    (trace_bytes (entries_in (encode d l scalars)) ≡ bytes)
    × (doublings (entries_in (encode d l scalars)) ≡ doubled)
    × (addition_count (entries_in (encode d l scalars)) ≡ added)
Holds (running d l scalars m elements registers answer) =
    (plain_registers (encode d l scalars) m elements l ≡ registers)
    × (difference_registers (encode d l scalars) m elements l ≡ registers)
    × (answer_register (encode d l scalars) registers ≡ answer)
Holds (packing d l scalars bytes) =
    (file_of (encode d l scalars) ≡ bytes) × (plan_in bytes ≡ encode d l scalars) × (unpack_refusal bytes ≡ 0)
Holds (wording words n) = number_of words ≡ n
Holds (stepping B r after) = step B r ≡ after

abbrev pub AllHold : List Case → Type 0
AllHold [] = Unit {0}
AllHold (c ∷ cs) = Holds c × AllHold cs

abbrev pub cases : List Case
cases =
    encoding 1 7 (73 ∷ []) (1 ∷ []) (0xda ∷ []) 2 ((74 ∷ []) ∷ (73 ∷ []) ∷ [])
    ∷ encoding 1 1 (0 ∷ []) (1 ∷ []) (0x00 ∷ []) 1 ((0 ∷ []) ∷ (1 ∷ []) ∷ [])
    ∷ encoding 1 1 (1 ∷ []) (1 ∷ []) (0x80 ∷ []) 2 ((2 ∷ []) ∷ (1 ∷ []) ∷ [])
    ∷ encoding 2 1 (0 ∷ 0 ∷ []) (1 ∷ 2 ∷ []) (0x00 ∷ []) 1 ((0 ∷ 0 ∷ []) ∷ (1 ∷ 0 ∷ []) ∷ (1 ∷ 1 ∷ []) ∷ [])
    ∷ encoding 2 2 (2 ∷ 1 ∷ []) (1 ∷ 2 ∷ []) (0xb0 ∷ []) 2 ((2 ∷ 2 ∷ []) ∷ (2 ∷ 1 ∷ []) ∷ (3 ∷ 1 ∷ []) ∷ [])
    ∷ tracing 2 2 (2 ∷ 1 ∷ [])
    (2 ∷ 2 ∷ 0 ∷ 0 ∷ 1 ∷ 2 ∷ 1 ∷ 0 ∷ 1 ∷ 3 ∷ 1 ∷ 1 ∷ 3 ∷ 3 ∷ 0 ∷ 0 ∷ 2 ∷ 3 ∷ 0 ∷ 1 ∷ 1 ∷ 3 ∷ 0xff ∷ 1 ∷ [])
    2 4
    ∷ running 2 2 (2 ∷ 1 ∷ []) 101 (10 ∷ 20 ∷ []) (60 ∷ 40 ∷ 50 ∷ []) 40
    ∷ running 2 2 (2 ∷ 1 ∷ []) 7 (5 ∷ 6 ∷ []) (1 ∷ 2 ∷ 0 ∷ []) 2
    ∷ running 2 2 (2 ∷ 1 ∷ []) 0 (2 ^ 63 ∷ 1 ∷ []) (2 ∷ 1 ∷ (2 ^ 63 + 1) ∷ []) 1
    ∷ encoding 2 2 (3 ∷ 3 ∷ []) (2 ∷ 1 ∷ []) (0xc0 ∷ []) 3 ((4 ∷ 4 ∷ []) ∷ (3 ∷ 4 ∷ []) ∷ (3 ∷ 3 ∷ []) ∷ [])
    ∷ encoding 3 2 (1 ∷ 2 ∷ 3 ∷ []) (3 ∷ 2 ∷ 1 ∷ []) (0xb4 ∷ []) 3
    ((2 ∷ 2 ∷ 4 ∷ []) ∷ (1 ∷ 2 ∷ 4 ∷ []) ∷ (1 ∷ 2 ∷ 3 ∷ []) ∷ (1 ∷ 3 ∷ 3 ∷ []) ∷ [])
    ∷ encoding 2 7 (73 ∷ 59 ∷ []) (1 ∷ 2 ∷ []) (0x72 ∷ 0xd8 ∷ []) 3 ((74 ∷ 60 ∷ []) ∷ (73 ∷ 60 ∷ []) ∷ (73 ∷ 59 ∷ []) ∷ [])
    ∷ listing
    (0x01 ∷ 0x02 ∷ 0x72 ∷ 0xd8 ∷ 0x02 ∷ 0x03 ∷ 0x07 ∷ 0x00 ∷ 0x04 ∷ 0x00 ∷ 0x00 ∷ 0x00 ∷ 0x64 ∷ 0x6d ∷ 0x75 ∷ 0x6c ∷ [])
    (0x70 ∷ 0x6c ∷ 0x61 ∷ 0x6e ∷ 0x20 ∷ 0x32 ∷ 0x20 ∷ 0x37 ∷ 0x20 ∷ 0x33 ∷ 0x0a ∷
    0x73 ∷ 0x74 ∷ 0x61 ∷ 0x72 ∷ 0x74 ∷ 0x20 ∷ 0x31 ∷ 0x20 ∷ 0x32 ∷ 0x0a ∷
    0x31 ∷ 0x20 ∷ 0x30 ∷ 0x31 ∷ 0x0a ∷
    0x32 ∷ 0x20 ∷ 0x31 ∷ 0x31 ∷ 0x0a ∷
    0x33 ∷ 0x20 ∷ 0x30 ∷ 0x30 ∷ 0x0a ∷
    0x34 ∷ 0x20 ∷ 0x31 ∷ 0x30 ∷ 0x0a ∷
    0x35 ∷ 0x20 ∷ 0x31 ∷ 0x31 ∷ 0x0a ∷
    0x36 ∷ 0x20 ∷ 0x30 ∷ 0x31 ∷ 0x0a ∷
    0x37 ∷ 0x20 ∷ 0x31 ∷ 0x30 ∷ 0x0a ∷
    0x76 ∷ 0x61 ∷ 0x6c ∷ 0x75 ∷ 0x65 ∷ 0x20 ∷ 0x34 ∷ 0x39 ∷ 0x20 ∷ 0x33 ∷ 0x62 ∷ 0x0a ∷ [])
    ∷ packing 2 7 (73 ∷ 59 ∷ [])
    (0x01 ∷ 0x02 ∷ 0x72 ∷ 0xd8 ∷ 0x02 ∷ 0x03 ∷ 0x07 ∷ 0x00 ∷ 0x04 ∷ 0x00 ∷ 0x00 ∷ 0x00 ∷ 0x64 ∷ 0x6d ∷ 0x75 ∷ 0x6c ∷ [])
    ∷ wording (5 ∷ 1 ∷ []) (2 ^ 64 + 5)
    ∷ stepping
    ((2 ∷ 4 ∷ 2 ∷ 2 ∷ []) ∷ (2 ∷ 4 ∷ 2 ∷ 3 ∷ []) ∷ (3 ∷ 4 ∷ 2 ∷ 3 ∷ []) ∷ (3 ∷ 3 ∷ 2 ∷ 3 ∷ []) ∷ (3 ∷ 3 ∷ 3 ∷ 3 ∷ []) ∷ [])
    (1 ∷ 0 ∷ 0 ∷ 1 ∷ [])
    ((6 ∷ 8 ∷ 4 ∷ 6 ∷ []) ∷ (5 ∷ 8 ∷ 4 ∷ 6 ∷ []) ∷ (5 ∷ 7 ∷ 4 ∷ 6 ∷ []) ∷ (5 ∷ 7 ∷ 5 ∷ 6 ∷ []) ∷ (5 ∷ 7 ∷ 5 ∷ 5 ∷ []) ∷ [])
    ∷ ending 2 7 (73 ∷ 59 ∷ []) (2 ∷ 1 ∷ []) (1 ∷ 2 ∷ []) (0x72 ∷ 0xd4 ∷ []) 3 ((74 ∷ 60 ∷ []) ∷ (74 ∷ 59 ∷ []) ∷ (73 ∷ 59 ∷ []) ∷ [])
    ∷ encoding 1 2 (2 ∷ []) (1 ∷ []) (0xc0 ∷ []) 1 ((2 ∷ []) ∷ (3 ∷ []) ∷ [])
    ∷ encoding 1 2 (1 ∷ []) (1 ∷ []) (0x40 ∷ []) 2 ((2 ∷ []) ∷ (1 ∷ []) ∷ [])
    ∷ []

pub cases_hold : AllHold cases
unfolding tabulate joined same count ones odds all number_of bit_at byte_of bytes_for pack_bits bits_length add_rows double_row bump rows_from start_matrix pairs_from additions step order_from step_order matrix_after order_after start_order bits_at matrix_in order_in last_matrix end_order answer_row scalar_bit xor dealt deal picked passed rearrange order_to_go encoded_start encoded_bits encode_with house_order encode difference vector_of operations entry_of block block_in entries_in signed_byte entry_bytes trace_bytes doublings addition_count step_registers registers_after modulus sum_of combination times_signed signed_sum plain_rule difference_add difference_rule start_from start_registers plain_registers difference_registers answer_register flatten mark trailer_size body_length trailer_byte d_in answer_in l_in distance_in mark_in body_place body_in plan_in two_bytes four_bytes file_of ◌then◌ unless within dim len each_once is_arrangement order answer same_numbers trailer distance read_refusal plan_refusal unpack_refusal refusing big list_refusal digits_within digits_of character decimal hexadecimal spaced line plan_word start_word value_word plan_line start_line step_line value_line plan_text listing_text
cases_hold = (
  (refl, refl, refl),
  (
    (refl, refl, refl),
    (
      (refl, refl, refl),
      (
        (refl, refl, refl),
        (
          (refl, refl, refl),
          (
            (refl, refl, refl),
            (
              (refl, refl, refl),
              (
                (refl, refl, refl),
                (
                  (refl, refl, refl),
                  (
                    (refl, refl, refl),
                    ((refl, refl, refl), ((refl, refl, refl), (refl, ((refl, refl, refl), (refl, (refl, ((refl, refl, refl), ((refl, refl, refl), ((refl, refl, refl), tt))))))))),
                  ),
                ),
              ),
            ),
          ),
        ),
      ),
    ),
  ),
)

-- So each of them holds, by its place in the list.
all_at : (cs : List Case) → AllHold cs → (i : ℕ) → Holds (get_or cs i (wording [] 0))
unfolding number_of
all_at [] t i = refl
all_at (c ∷ cs) t zero = t.0
all_at (c ∷ cs) t (suc i) = all_at cs t.1 i

pub case_holds : (i : ℕ) → Holds (get_or cases i (wording [] 0))
case_holds = all_at cases cases_hold
