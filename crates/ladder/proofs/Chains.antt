-- The order in which each operation refuses: its chain with no grouping left, and for each of its numbers where that one comes out.
-- Assumes nothing.
use Prim.Native.Nat.{ℕ, suc}
use mathlib.Core.Path.{◌≡◌, refl, ◌∙◌}
use mathlib.Core.Logic.{◌⊎◌, ⊎_elim}
use mathlib.Core.List.{List}
use native.Mathlib.Omega.{arith}
use Rattle.ladder.specs.Numbers.{scalars_length, values_length, start_length, elements_length, registers_length, bits_length, trace_length, longest_text}
use Rattle.ladder.specs.Plan.{Plan}
use Rattle.ladder.specs.Walk.{Walk}
use Rattle.ladder.specs.PlanFile.{file_length, plan_in}
use Rattle.ladder.specs.Refusals.{◌then◌, DIM, LENGTH, SHAPE, SCALAR, ORDER, ROW, MODULUS, ELEMENT, TRAILER, BIG, dim, len, shape, step_shape, scalar, order, walk_order, answer, too_large, element, trailer, distance, big, read_refusal, plan_refusal, plan_shape, loose_refusal, scalars_in, encode_refusal, decode_refusal, check_refusal, step_refusal, trace_refusal, run_refusal, pack_refusal, unpack_refusal, list_refusal, listing_refusal}
use Rattle.ladder.proofs.Tests.{then_first, then_next, then_assoc, then_is}
use Rattle.ladder.proofs.Refusals.{dim_is, len_is, shape_is, step_shape_is, scalar_is, order_is, walk_order_is, answer_is, too_large_is, element_is, trailer_is, distance_is, big_is}

-- ---- each operation's chain

-- Encode: 1, 2, 3, 4.
pub encode_chain : (d l : ℕ) (scalars start bits : List ℕ)
    → encode_refusal d l scalars start bits
    ≡ dim d then len l then shape scalars (scalars_length d l) then shape start (start_length d) then shape bits (bits_length d l)
    then scalar l (scalars_in d l scalars)
unfolding encode_refusal
encode_chain d l scalars start bits = simp then_assoc

-- What is read of a plan past its shapes: 5, 6.
pub read_chain : (p : Plan) → read_refusal p ≡ order p.d p.start then answer p.d p.answer
unfolding read_refusal
read_chain p = refl

-- A loose plan, up to its own buffers: 1, 2, 3; then the other buffers of the call (3), then what is read.
pub loose_chain : (p : Plan) (others : ℕ)
    → loose_refusal p others
    ≡ dim p.d then len p.l then shape p.start (start_length p.d) then shape p.bits (bits_length p.d p.l)
    then others then read_refusal p
unfolding loose_refusal plan_refusal plan_shape
loose_chain p others = simp then_assoc

-- Decode: 1, 2, 3, 5, 6.
pub decode_chain : (p : Plan) (values : List ℕ)
    → decode_refusal p values
    ≡ dim p.d then len p.l then shape p.start (start_length p.d) then shape p.bits (bits_length p.d p.l)
    then shape values (values_length p.d p.l) then read_refusal p
unfolding decode_refusal
decode_chain p values = loose_chain p (shape values (values_length p.d p.l))

-- Check: 1, 2, 3, 5, 6, 4.
pub check_chain : (p : Plan) (scalars : List ℕ)
    → check_refusal p scalars
    ≡ dim p.d then len p.l then shape p.start (start_length p.d) then shape p.bits (bits_length p.d p.l)
    then shape scalars (scalars_length p.d p.l) then read_refusal p
    then scalar p.l (scalars_in p.d p.l scalars)
unfolding check_refusal
check_chain p scalars = simp (loose_chain, then_assoc)

-- Step: 1, 5, 3.
pub step_chain : (w : Walk) (n : ℕ) → step_refusal w n ≡ dim w.d then walk_order w then step_shape w.d n
unfolding step_refusal
step_chain w n = refl

-- Trace: 1, 2, 3, 5, 6.
pub trace_chain : (p : Plan) (trace : List ℕ)
    → trace_refusal p trace
    ≡ dim p.d then len p.l then shape p.start (start_length p.d) then shape p.bits (bits_length p.d p.l)
    then shape trace (trace_length p.d p.l) then read_refusal p
unfolding trace_refusal
trace_chain p trace = loose_chain p (shape trace (trace_length p.d p.l))

-- Plain run and difference run: 1, 2, 3, 5, 6, 7, 8.
pub run_chain : (p : Plan) (m : ℕ) (elements registers : List ℕ)
    → run_refusal p m elements registers
    ≡ dim p.d then len p.l then shape p.start (start_length p.d) then shape p.bits (bits_length p.d p.l)
    then shape elements (elements_length p.d) then shape registers (registers_length p.d)
    then read_refusal p then too_large m then element m elements
unfolding run_refusal
run_chain p m elements registers = simp (loose_chain, then_assoc)

-- Pack: 1, 2, 3, 5, 6.
pub pack_chain : (p : Plan) (file : List ℕ)
    → pack_refusal p file
    ≡ dim p.d then len p.l then shape p.start (start_length p.d) then shape p.bits (bits_length p.d p.l)
    then shape file (file_length p.d p.l) then read_refusal p
unfolding pack_refusal
pack_chain p file = loose_chain p (shape file (file_length p.d p.l))

-- Unpack: 9, 1, 2, 9, 5, 6.
pub unpack_chain : (file : List ℕ)
    → unpack_refusal file
    ≡ trailer file then dim (plan_in file).d then len (plan_in file).l then distance file then read_refusal (plan_in file)
unfolding unpack_refusal plan_refusal
unpack_chain file = refl

-- The listing program: 10, then as unpack.
pub list_chain : (file : List ℕ) → list_refusal file ≡ big file then unpack_refusal file
unfolding list_refusal
list_chain file = refl

-- The listing: 10, 3, then as unpack.
pub listing_chain : (file text : List ℕ) → listing_refusal file text ≡ big file then shape text longest_text then unpack_refusal file
unfolding listing_refusal
listing_chain file text = refl

-- ---- which number comes out: what stands before it is 0, and it is not

-- A refusal that is 0 or its own number, and not 0, is that number ..
pub its_own : (m k : ℕ) → (m ≡ 0) ⊎ (m ≡ k) → (m ≡ 0 → ⊥) → m ≡ k
its_own m k is ne = ⊎_elim (λ e. absurd (ne e)) (λ e. e) is

-- .. and is given before all that come after it.
pub given : (m n k : ℕ) → (m ≡ 0) ⊎ (m ≡ k) → (m ≡ 0 → ⊥) → m then n ≡ k
given m n k is ne = then_first m n ne ∙ its_own m k is ne

-- Encode gives 1 whatever else is wrong ..
pub encode-dim : (d l : ℕ) (scalars start bits : List ℕ) → (dim d ≡ 0 → ⊥) → encode_refusal d l scalars start bits ≡ DIM
unfolding encode_refusal
encode-dim d l scalars start bits = given (dim d) _ DIM (dim_is d)

-- .. and, d being in range, 2 before 3 and 4 ..
pub encode-len : (d l : ℕ) (scalars start bits : List ℕ) → dim d ≡ 0 → (len l ≡ 0 → ⊥) → encode_refusal d l scalars start bits ≡ LENGTH
unfolding encode_refusal
encode-len d l scalars start bits e ne = then_next (dim d) _ e ∙ given (len l) _ LENGTH (len_is l) ne

module _ (d l : ℕ) (scalars start bits : List ℕ) (d-ok : dim d ≡ 0) (l-ok : len l ≡ 0) where
  -- What stands at number 3.
  abbrev encodeShapes : ℕ
  encodeShapes = shape scalars (scalars_length d l) then shape start (start_length d) then shape bits (bits_length d l)

  -- .. then 3 for any of the buffers, before 4 ..
  pub encode-shape : (encodeShapes ≡ 0 → ⊥) → encode_refusal d l scalars start bits ≡ SHAPE
  unfolding encode_refusal
  encode-shape ne =
      then_next (dim d) _ d-ok ∙ then_next (len l) _ l-ok
      ∙ given _ _ SHAPE (then_is _ _ SHAPE (shape_is scalars _) (then_is _ _ SHAPE (shape_is start _) (shape_is bits _))) ne

  -- .. then 4.
  pub encode-scalar : encodeShapes ≡ 0 → (scalar l (scalars_in d l scalars) ≡ 0 → ⊥) → encode_refusal d l scalars start bits ≡ SCALAR
  unfolding encode_refusal
  encode-scalar e ne =
      then_next (dim d) _ d-ok ∙ then_next (len l) _ l-ok ∙ then_next _ _ e ∙ its_own _ SCALAR (scalar_is l (scalars_in d l scalars)) ne

-- A plan that is read, lent or in a file, with what stands at number 3: 1 whatever else is wrong ..
plan_dim : (p : Plan) (shapes : ℕ) → (dim p.d ≡ 0 → ⊥) → plan_refusal p shapes ≡ DIM
unfolding plan_refusal
plan_dim p shapes = given (dim p.d) _ DIM (dim_is p.d)

-- .. then 2 ..
plan_len : (p : Plan) (shapes : ℕ) → dim p.d ≡ 0 → (len p.l ≡ 0 → ⊥) → plan_refusal p shapes ≡ LENGTH
unfolding plan_refusal
plan_len p shapes e ne = then_next (dim p.d) _ e ∙ given (len p.l) _ LENGTH (len_is p.l) ne

module _ (p : Plan) (shapes : ℕ) (d-ok : dim p.d ≡ 0) (l-ok : len p.l ≡ 0) where
  from_shapes : plan_refusal p shapes ≡ shapes then read_refusal p
  unfolding plan_refusal
  from_shapes = then_next (dim p.d) _ d-ok ∙ then_next (len p.l) _ l-ok

  -- .. then what stands at number 3, which has one number ..
  plan_shapes : (k : ℕ) → (shapes ≡ 0) ⊎ (shapes ≡ k) → (shapes ≡ 0 → ⊥) → plan_refusal p shapes ≡ k
  plan_shapes k is ne = from_shapes ∙ given shapes _ k is ne

  -- .. then what is read, ..
  plan_read : shapes ≡ 0 → plan_refusal p shapes ≡ read_refusal p
  plan_read e = from_shapes ∙ then_next shapes _ e

module _ (p : Plan) where
  -- .. of which 5 comes first ..
  pub read_order : (order p.d p.start ≡ 0 → ⊥) → read_refusal p ≡ ORDER
  unfolding read_refusal
  read_order = given (order p.d p.start) _ ORDER (order_is p.d p.start)

  -- .. then 6.
  pub read_row : order p.d p.start ≡ 0 → (answer p.d p.answer ≡ 0 → ⊥) → read_refusal p ≡ ROW
  unfolding read_refusal
  read_row e ne = then_next (order p.d p.start) _ e ∙ its_own _ ROW (answer_is p.d p.answer) ne

-- Decode, trace and pack refuse a loose plan with one buffer besides, and nothing else.
pub decode_loose : (p : Plan) (values : List ℕ) → decode_refusal p values ≡ loose_refusal p (shape values (values_length p.d p.l))
unfolding decode_refusal
decode_loose p values = refl

pub trace_loose : (p : Plan) (trace : List ℕ) → trace_refusal p trace ≡ loose_refusal p (shape trace (trace_length p.d p.l))
unfolding trace_refusal
trace_loose p trace = refl

pub pack_loose : (p : Plan) (file : List ℕ) → pack_refusal p file ≡ loose_refusal p (shape file (file_length p.d p.l))
unfolding pack_refusal
pack_loose p file = refl

module _ (p : Plan) (others : ℕ) where
  -- A loose plan gives 1 whatever else is wrong ..
  pub loose_dim : (dim p.d ≡ 0 → ⊥) → loose_refusal p others ≡ DIM
  unfolding loose_refusal
  loose_dim = plan_dim p _

  -- .. then 2 ..
  pub loose_len : dim p.d ≡ 0 → (len p.l ≡ 0 → ⊥) → loose_refusal p others ≡ LENGTH
  unfolding loose_refusal
  loose_len = plan_len p _

  -- .. then 3, for a buffer of its own or, where these are right, for one of the others ..
  pub loose_shape : dim p.d ≡ 0 → len p.l ≡ 0 → (others ≡ 0) ⊎ (others ≡ SHAPE) → (plan_shape p then others ≡ 0 → ⊥)
      → loose_refusal p others ≡ SHAPE
  unfolding loose_refusal plan_shape
  loose_shape d-ok l-ok is =
      plan_shapes p _ d-ok l-ok SHAPE (then_is _ _ SHAPE (then_is _ _ SHAPE (shape_is p.start _) (shape_is p.bits _)) is)

  -- .. then what is read.
  pub loose_read : dim p.d ≡ 0 → len p.l ≡ 0 → plan_shape p then others ≡ 0 → loose_refusal p others ≡ read_refusal p
  unfolding loose_refusal
  loose_read = plan_read p _

-- So decode, trace and pack give 3 for a buffer of the plan's, or where these are right for their own.
module _ (p : Plan) (d-ok : dim p.d ≡ 0) (l-ok : len p.l ≡ 0) where
  pub decode_shape : (values : List ℕ) → (plan_shape p then shape values (values_length p.d p.l) ≡ 0 → ⊥) → decode_refusal p values ≡ SHAPE
  unfolding decode_refusal
  decode_shape values = loose_shape p _ d-ok l-ok (shape_is values _)

  pub trace_shape : (trace : List ℕ) → (plan_shape p then shape trace (trace_length p.d p.l) ≡ 0 → ⊥) → trace_refusal p trace ≡ SHAPE
  unfolding trace_refusal
  trace_shape trace = loose_shape p _ d-ok l-ok (shape_is trace _)

  pub pack_shape : (file : List ℕ) → (plan_shape p then shape file (file_length p.d p.l) ≡ 0 → ⊥) → pack_refusal p file ≡ SHAPE
  unfolding pack_refusal
  pack_shape file = loose_shape p _ d-ok l-ok (shape_is file _)

-- A refusal that is given first is the whole one.
loose_first : (m n k : ℕ) → m ≡ suc k → m then n ≡ suc k
loose_first m n k e = then_first m n (λ z. omega arith) ∙ e

module _ (p : Plan) (scalars : List ℕ) where
  -- The plan and the scalars' buffer.
  abbrev checkLoose : ℕ
  checkLoose = loose_refusal p (shape scalars (scalars_length p.d p.l))

  -- Check gives what is wrong with the plan or a length, 6 too, before 4 ..
  pub check_loose : (checkLoose ≡ 0 → ⊥) → check_refusal p scalars ≡ checkLoose
  unfolding check_refusal
  check_loose = then_first checkLoose _

  -- .. so whatever a loose plan gives, and 3 for the scalars' buffer too ..
  pub check_gives : (k : ℕ) → checkLoose ≡ suc k → check_refusal p scalars ≡ suc k
  unfolding check_refusal
  check_gives k = loose_first checkLoose _ k

  pub check_shape : dim p.d ≡ 0 → len p.l ≡ 0 → (plan_shape p then shape scalars (scalars_length p.d p.l) ≡ 0 → ⊥)
      → check_refusal p scalars ≡ SHAPE
  check_shape d-ok l-ok ne = check_gives 2 (loose_shape p _ d-ok l-ok (shape_is scalars _) ne)

  -- .. then 4.
  pub check_scalar : checkLoose ≡ 0 → (scalar p.l (scalars_in p.d p.l scalars) ≡ 0 → ⊥) → check_refusal p scalars ≡ SCALAR
  unfolding check_refusal
  check_scalar e ne = then_next checkLoose _ e ∙ its_own _ SCALAR (scalar_is p.l (scalars_in p.d p.l scalars)) ne

module _ (w : Walk) (n : ℕ) where
  -- Step gives 1 whatever else is wrong ..
  pub step-dim : (dim w.d ≡ 0 → ⊥) → step_refusal w n ≡ DIM
  unfolding step_refusal
  step-dim = given (dim w.d) _ DIM (dim_is w.d)

  -- .. then 5 ..
  pub step-order : dim w.d ≡ 0 → (walk_order w ≡ 0 → ⊥) → step_refusal w n ≡ ORDER
  unfolding step_refusal
  step-order e ne = then_next (dim w.d) _ e ∙ given (walk_order w) _ ORDER (walk_order_is w) ne

  -- .. then 3.
  pub step-shape : dim w.d ≡ 0 → walk_order w ≡ 0 → (step_shape w.d n ≡ 0 → ⊥) → step_refusal w n ≡ SHAPE
  unfolding step_refusal
  step-shape e f ne = then_next (dim w.d) _ e ∙ then_next (walk_order w) _ f ∙ its_own _ SHAPE (step_shape_is w.d n) ne

module _ (p : Plan) (m : ℕ) (elements registers : List ℕ) where
  -- The plan and both other buffers.
  abbrev runLoose : ℕ
  runLoose = loose_refusal p (shape elements (elements_length p.d) then shape registers (registers_length p.d))

  -- A run gives what is wrong with the plan or a length before 7 and 8 ..
  pub run_loose : (runLoose ≡ 0 → ⊥) → run_refusal p m elements registers ≡ runLoose
  unfolding run_refusal
  run_loose = then_first runLoose _

  -- .. so whatever a loose plan gives, and 3 for its two buffers too ..
  pub run_gives : (k : ℕ) → runLoose ≡ suc k → run_refusal p m elements registers ≡ suc k
  unfolding run_refusal
  run_gives k = loose_first runLoose _ k

  pub run_shape : dim p.d ≡ 0 → len p.l ≡ 0
      → (plan_shape p then shape elements (elements_length p.d) then shape registers (registers_length p.d) ≡ 0 → ⊥)
      → run_refusal p m elements registers ≡ SHAPE
  run_shape d-ok l-ok ne = run_gives 2 (loose_shape p _ d-ok l-ok (then_is _ _ SHAPE (shape_is elements _) (shape_is registers _)) ne)

  -- .. then 7 ..
  pub run_modulus : runLoose ≡ 0 → (too_large m ≡ 0 → ⊥) → run_refusal p m elements registers ≡ MODULUS
  unfolding run_refusal
  run_modulus e ne = then_next runLoose _ e ∙ given (too_large m) _ MODULUS (too_large_is m) ne

  -- .. then 8.
  pub run_element : runLoose ≡ 0 → too_large m ≡ 0 → (element m elements ≡ 0 → ⊥) → run_refusal p m elements registers ≡ ELEMENT
  unfolding run_refusal
  run_element e f ne = then_next runLoose _ e ∙ then_next (too_large m) _ f ∙ its_own _ ELEMENT (element_is m elements) ne

module _ (file : List ℕ) where
  -- Unpack gives 9 for a file too short or a wrong mark before all else ..
  pub unpack_trailer : (trailer file ≡ 0 → ⊥) → unpack_refusal file ≡ TRAILER
  unfolding unpack_refusal
  unpack_trailer = given (trailer file) _ TRAILER (trailer_is file)

  module _ (marked : trailer file ≡ 0) where
    past_trailer : unpack_refusal file ≡ plan_refusal (plan_in file) (distance file)
    unfolding unpack_refusal
    past_trailer = then_next (trailer file) _ marked

    -- .. then 1 ..
    pub unpack_dim : (dim (plan_in file).d ≡ 0 → ⊥) → unpack_refusal file ≡ DIM
    unpack_dim ne = past_trailer ∙ plan_dim (plan_in file) (distance file) ne

    -- .. then 2 ..
    pub unpack_len : dim (plan_in file).d ≡ 0 → (len (plan_in file).l ≡ 0 → ⊥) → unpack_refusal file ≡ LENGTH
    unpack_len d-ok ne = past_trailer ∙ plan_len (plan_in file) (distance file) d-ok ne

    module _ (d-ok : dim (plan_in file).d ≡ 0) (l-ok : len (plan_in file).l ≡ 0) where
      -- .. then 9 for the distance ..
      pub unpack_distance : (distance file ≡ 0 → ⊥) → unpack_refusal file ≡ TRAILER
      unpack_distance ne = past_trailer ∙ plan_shapes (plan_in file) (distance file) d-ok l-ok TRAILER (distance_is file) ne

      -- .. then what is read.
      pub unpack_read : distance file ≡ 0 → unpack_refusal file ≡ read_refusal (plan_in file)
      unpack_read e = past_trailer ∙ plan_read (plan_in file) (distance file) d-ok l-ok e

  -- The listing program gives 10 before all else, then what unpack gives.
  pub list_big : (big file ≡ 0 → ⊥) → list_refusal file ≡ BIG
  unfolding list_refusal
  list_big = given (big file) _ BIG (big_is file)

  pub list_unpack : big file ≡ 0 → list_refusal file ≡ unpack_refusal file
  unfolding list_refusal
  list_unpack = then_next (big file) _

  module _ (text : List ℕ) where
    -- The listing gives 10 before all else ..
    pub listing_big : (big file ≡ 0 → ⊥) → listing_refusal file text ≡ BIG
    unfolding listing_refusal
    listing_big = given (big file) _ BIG (big_is file)

    -- .. then 3 ..
    pub listing_shape : big file ≡ 0 → (shape text longest_text ≡ 0 → ⊥) → listing_refusal file text ≡ SHAPE
    unfolding listing_refusal
    listing_shape e ne = then_next (big file) _ e ∙ given (shape text longest_text) _ SHAPE (shape_is text longest_text) ne

    -- .. then what unpack gives.
    pub listing_unpack : big file ≡ 0 → shape text longest_text ≡ 0 → listing_refusal file text ≡ unpack_refusal file
    unfolding listing_refusal
    listing_unpack e f = then_next (big file) _ e ∙ then_next (shape text longest_text) _ f
