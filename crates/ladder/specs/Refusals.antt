-- "Operations and how they refuse": each number of the table by name, a definition of when it is given, then each operation's
-- refusal: the first that applies in the order given for that operation. 0 is OK.
-- Assumes nothing.
use Rattle.std.specs.Prelude.{ℕ, zero, suc, ◌+◌, ◌^◌, Bool, true, false, cond, ◌&&◌, List, [], ◌∷◌, eqb, leb, ltb, ℤ, pos, negsuc, length, get_or, take, drop}
use Rattle.ladder.specs.Lists.{tabulate, count, all}
use Rattle.ladder.specs.Numbers.{numbers_of, scalar_words, scalars_length, values_length, start_length, elements_length, registers_length, bits_length, trace_length, longest_text}
use Rattle.ladder.specs.Plan.{Plan}
use Rattle.ladder.specs.Walk.{Walk}
use Rattle.ladder.specs.PlanFile.{mark, trailer_size, body_length, file_length, d_in, l_in, distance_in, mark_in, plan_in}

-- ---- tests and their order

-- The first refusal that applies.
infixr 5 ◌then◌
unfoldable pub ◌then◌ : ℕ → ℕ → ℕ
zero then n = n
suc m then n = suc m

-- Refusal n unless a test holds.
unfoldable pub unless : Bool → ℕ → ℕ
unless test n = cond test 0 n

-- What a call answers or leaves, n being its refusal: the first where it refuses, the second where it does not.
unfoldable pub refusing : {A : Type 0} → ℕ → A → A → A
refusing zero refused accepted = accepted
refusing (suc n) refused accepted = refused

-- A number lies in lo..hi.
unfoldable pub within : ℕ → ℕ → ℕ → Bool
within lo hi n = leb lo n && leb n hi

-- ---- the table: the numbers by name

abbrev pub DIM : ℕ
DIM = 1

abbrev pub LENGTH : ℕ
LENGTH = 2

abbrev pub SHAPE : ℕ
SHAPE = 3

abbrev pub SCALAR : ℕ
SCALAR = 4

abbrev pub ORDER : ℕ
ORDER = 5

abbrev pub ROW : ℕ
ROW = 6

abbrev pub MODULUS : ℕ
MODULUS = 7

abbrev pub ELEMENT : ℕ
ELEMENT = 8

abbrev pub TRAILER : ℕ
TRAILER = 9

abbrev pub BIG : ℕ
BIG = 10

-- ---- the table: when each is given

-- 1 DIM: d not 1..8.
unfoldable pub dim : ℕ → ℕ
dim d = unless (within 1 8 d) DIM

-- 2 LENGTH: l not 1..576.
unfoldable pub len : ℕ → ℕ
len l = unless (within 1 576 l) LENGTH

-- 3 SHAPE: a lent buffer hasn't exactly its length ..
unfoldable pub shape : List ℕ → ℕ → ℕ
shape buffer n = unless (eqb (length buffer) n) SHAPE

-- .. or a step's bit number is 2^d or more.
unfoldable pub step_shape : ℕ → ℕ → ℕ
step_shape d n = unless (ltb n (2 ^ d)) SHAPE

-- 4 SCALAR: a scalar is 2^l or more.
unfoldable pub scalar : ℕ → List ℕ → ℕ
scalar l ks = unless (all (λ k. ltb k (2 ^ l)) ks) SCALAR

-- Each of 1..n occurs once.
unfoldable pub each_once : ℕ → List ℕ → Bool
each_once zero S = true
each_once (suc n) S = eqb (count (suc n) S) 1 && each_once n S

-- An arrangement of 1..d: d numbers, each from 1 to d, and each of 1..d once.
unfoldable pub is_arrangement : ℕ → List ℕ → Bool
is_arrangement d S = eqb (length S) d && all (within 1 d) S && each_once d S

-- 5 ORDER: the order isn't an arrangement of 1..d ..
unfoldable pub order : ℕ → List ℕ → ℕ
order d S = unless (is_arrangement d S) ORDER

-- 1 or -1.
unfoldable pub is_unit : ℤ → Bool
is_unit (pos n) = eqb n 1
is_unit (negsuc n) = eqb n 0

-- 0.
unfoldable pub is_zero : ℤ → Bool
is_zero (pos n) = eqb n 0
is_zero (negsuc n) = false

-- The first d signs of a list, 0 for each that the list lacks, are 1 or -1.
unfoldable pub all_units : ℕ → List ℤ → Bool
all_units d signs = all is_unit (tabulate d (λ j. get_or signs j (pos 0)))

-- .. in a walk state also a sign other than 1 and -1 at a place 1..d, or a non-zero order or sign past place d.
unfoldable pub walk_order : Walk → ℕ
walk_order w =
    unless
    (is_arrangement w.d (take w.d w.order) && all_units w.d w.signs
    && all (eqb 0) (drop w.d w.order) && all is_zero (drop w.d w.signs))
    ORDER

-- 6 ROW: answer row not 1..d+1.
unfoldable pub answer : ℕ → ℕ → ℕ
answer d n = unless (within 1 (suc d) n) ROW

-- 7 MODULUS: above 2^63.
unfoldable pub too_large : ℕ → ℕ
too_large m = unless (leb m (2 ^ 63)) MODULUS

-- 8 ELEMENT: an element not below a modulus other than 0.
unfoldable pub element : ℕ → List ℕ → ℕ
element zero es = 0
element (suc m) es = unless (all (λ e. ltb e (suc m)) es) ELEMENT

-- Two lists of numbers are the same.
unfoldable pub same_numbers : List ℕ → List ℕ → Bool
same_numbers [] [] = true
same_numbers [] (b ∷ bs) = false
same_numbers (a ∷ rest) [] = false
same_numbers (a ∷ rest) (b ∷ bs) = eqb a b && same_numbers rest bs

-- 9 TRAILER: plan file shorter than 12 bytes, wrong mark ..
unfoldable pub trailer : List ℕ → ℕ
trailer file = unless (leb trailer_size (length file) && same_numbers (mark_in file) mark) TRAILER

-- .. or a back distance that isn't the body's, or that is more than the bytes before the trailer.
unfoldable pub distance : List ℕ → ℕ
distance file =
    unless
    (eqb (distance_in file) (body_length (d_in file) (l_in file)) && leb (distance_in file + trailer_size) (length file))
    TRAILER

-- 10 BIG: more than 4,096 bytes of input.
unfoldable pub big : List ℕ → ℕ
big file = unless (leb (length file) 4096) BIG

-- ---- each operation

-- What a plan that is read must be past its shapes, whether it is lent or stands in a file: 5, 6.
unfoldable pub read_refusal : Plan → ℕ
read_refusal p = order p.d p.start then answer p.d p.answer

-- A plan that is read: 1, 2, then what stands at number 3, which is handed in, then 5, 6.
unfoldable pub plan_refusal : Plan → ℕ → ℕ
plan_refusal p shapes = dim p.d then len p.l then shapes then read_refusal p

-- The shape of a plan's own buffers.
unfoldable pub plan_shape : Plan → ℕ
plan_shape p = shape p.start (start_length p.d) then shape p.bits (bits_length p.d p.l)

-- A loose plan, lent as a start order and bits: 1, 2, 3, 5, 6. Number 3 covers these and, handed in, the call's other buffers.
unfoldable pub loose_refusal : Plan → ℕ → ℕ
loose_refusal p others = plan_refusal p (plan_shape p then others)

-- The d scalars in lent words.
unfoldable pub scalars_in : ℕ → ℕ → List ℕ → List ℕ
scalars_in d l ws = numbers_of d (scalar_words l) ws

-- Encode: 1, 2, 3, 4.
unfoldable pub encode_refusal : ℕ → ℕ → List ℕ → List ℕ → List ℕ → ℕ
encode_refusal d l scalars start bits =
    dim d then len l
    then (shape scalars (scalars_length d l) then shape start (start_length d) then shape bits (bits_length d l))
    then scalar l (scalars_in d l scalars)

-- Decode: 1, 2, 3, 5, 6.
unfoldable pub decode_refusal : Plan → List ℕ → ℕ
decode_refusal p values = loose_refusal p (shape values (values_length p.d p.l))

-- Check: 1, 2, 3, 5, 6, 4.
unfoldable pub check_refusal : Plan → List ℕ → ℕ
check_refusal p scalars =
    loose_refusal p (shape scalars (scalars_length p.d p.l))
    then scalar p.l (scalars_in p.d p.l scalars)

-- Step: 1, 5, 3.
unfoldable pub step_refusal : Walk → ℕ → ℕ
step_refusal w n = dim w.d then walk_order w then step_shape w.d n

-- Trace: 1, 2, 3, 5, 6.
unfoldable pub trace_refusal : Plan → List ℕ → ℕ
trace_refusal p trace = loose_refusal p (shape trace (trace_length p.d p.l))

-- Plain run and difference run: 1, 2, 3, 5, 6, 7, 8.
unfoldable pub run_refusal : Plan → ℕ → List ℕ → List ℕ → ℕ
run_refusal p m elements registers =
    loose_refusal p (shape elements (elements_length p.d) then shape registers (registers_length p.d))
    then too_large m then element m elements

-- Pack: 1, 2, 3, 5, 6.
unfoldable pub pack_refusal : Plan → List ℕ → ℕ
pack_refusal p file = loose_refusal p (shape file (file_length p.d p.l))

-- Unpack: 9 for short or mark; 1; 2; 9 for the distance; 5; 6. Where a loose plan has number 3, a file has its distance.
unfoldable pub unpack_refusal : List ℕ → ℕ
unpack_refusal file = trailer file then plan_refusal (plan_in file) (distance file)

-- The listing program: 10, then as unpack.
unfoldable pub list_refusal : List ℕ → ℕ
list_refusal file = big file then unpack_refusal file

-- The call that lists into a lent buffer: 10, 3, then as unpack.
unfoldable pub listing_refusal : List ℕ → List ℕ → ℕ
listing_refusal file text = big file then shape text longest_text then unpack_refusal file
