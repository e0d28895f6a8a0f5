-- When each operation refuses nothing, in plain terms, in both directions.
-- Assumes nothing.
use Prim.Native.Nat.{ℕ, ◌+◌, ◌^◌, ◌≤◌, ◌<◌}
use mathlib.Core.Path.{◌≡◌, ap, subst, ◌∙◌}
use mathlib.Core.Logic.Iff
use mathlib.Core.Logic.{◌↔◌, ◌⊎◌}
use mathlib.Core.List.{List}
use lib.ListN.{length, get_or}
use Rattle.ladder.specs.Numbers.{scalar_words, scalars_length, values_length, start_length, elements_length, registers_length, bits_length, trace_length, longest_text}
use Rattle.ladder.specs.Plan.{Plan}
use Rattle.ladder.specs.Walk.{Walk}
use Rattle.ladder.specs.PlanFile.{mark, trailer_size, body_length, file_length, d_in, l_in, distance_in, mark_in, plan_in}
use Rattle.ladder.specs.Refusals.{scalar, plan_refusal, plan_shape, loose_refusal, scalars_in, encode_refusal, decode_refusal, check_refusal, step_refusal, trace_refusal, run_refusal, pack_refusal, unpack_refusal, list_refusal, listing_refusal}
use Rattle.ladder.proofs.Numbers.{length-numbers_of}
use Rattle.ladder.proofs.Tests.{then_says}
use Rattle.ladder.proofs.Refusals.{dim_none, len_none, shape_none, step_shape_none, scalar_none, WalkOk, walk_order_none, too_large_none, element_none, Accepted, accepted, accepted_shapes, accept}
use Rattle.ladder.proofs.FileRefusals.{trailer_none, distance_none, big_none}

-- ---- what operations share

-- Each of d scalars in lent words is below 2^l.
abbrev pub ScalarsFit : ℕ → ℕ → List ℕ → Type 0
ScalarsFit d l scalars = (j : ℕ) → j < d → get_or (scalars_in d l scalars) j 0 < 2 ^ l

scalars_none : (d l : ℕ) (scalars : List ℕ) → scalar l (scalars_in d l scalars) ≡ 0 ↔ ScalarsFit d l scalars
unfolding scalars_in
scalars_none d l scalars =
    subst (λ n. scalar l (scalars_in d l scalars) ≡ 0 ↔ ((j : ℕ) → j < n → get_or (scalars_in d l scalars) j 0 < 2 ^ l))
    (length-numbers_of d (scalar_words l) scalars) (scalar_none l (scalars_in d l scalars))

-- A plan that a call reads: it is accepted, and its buffers have their lengths.
pub record PlanOk (p : Plan) : Type 0 where
  pub plan : Accepted p
  pub start : length p.start ≡ start_length p.d
  pub bits : length p.bits ≡ bits_length p.d p.l

-- A plan is not refused where it is accepted and what stands at number 3 is so.
pub plan_none : (p : Plan) {shapes : ℕ} {Q : Type 0} → shapes ≡ 0 ↔ Q → plan_refusal p shapes ≡ 0 ↔ Accepted p × Q
plan_none p {shapes} q =
    (λ e. (accepted p shapes e, q.0 (accepted_shapes p shapes e)), λ t. ap (plan_refusal p) (q.1 t.1) ∙ accept p t.0)

-- A loose plan is not refused where it is accepted, its buffers have their lengths, and what its call's others ask is so.
pub loose_none : (p : Plan) {others : ℕ} {Q : Type 0} → others ≡ 0 ↔ Q → loose_refusal p others ≡ 0 ↔ PlanOk p × Q
unfolding loose_refusal plan_shape
loose_none p q =
    Iff.trans
    (plan_none p (then_says (then_says (shape_none p.start (start_length p.d)) (shape_none p.bits (bits_length p.d p.l))) q)) (
      λ t. (record { plan = t.0; start = t.1.0.0; bits = t.1.0.1 }, t.1.1),
      λ t. (t.0.plan, ((t.0.start, t.0.bits), t.1)),
    )

-- ---- each operation

-- What encode asks.
pub record EncodeOk (d l : ℕ) (scalars start bits : List ℕ) : Type 0 where
  pub dimension : (1 ≤ d) × (d ≤ 8)
  pub steps : (1 ≤ l) × (l ≤ 576)
  pub scalars_long : length scalars ≡ scalars_length d l
  pub start_long : length start ≡ start_length d
  pub bits_long : length bits ≡ bits_length d l
  pub fit : ScalarsFit d l scalars

-- Encode refuses nothing exactly where that is so.
pub encode_none : (d l : ℕ) (scalars start bits : List ℕ)
    → encode_refusal d l scalars start bits ≡ 0 ↔ EncodeOk d l scalars start bits
unfolding encode_refusal
encode_none d l scalars start bits =
    Iff.trans
    (then_says (dim_none d) (then_says (len_none l) (then_says
    (then_says (shape_none scalars (scalars_length d l)) (then_says (shape_none start (start_length d)) (shape_none bits (bits_length d l))))
    (scalars_none d l scalars)))) (
      λ t. record {
        dimension = t.0;
        steps = t.1.0;
        scalars_long = t.1.1.0.0;
        start_long = t.1.1.0.1.0;
        bits_long = t.1.1.0.1.1;
        fit = t.1.1.1;
      },
      λ k. (k.dimension, (k.steps, ((k.scalars_long, (k.start_long, k.bits_long)), k.fit))),
    )

-- What decode asks.
pub record DecodeOk (p : Plan) (values : List ℕ) : Type 0 where
  pub plan : PlanOk p
  pub values_long : length values ≡ values_length p.d p.l

-- Decode refuses nothing exactly where that is so.
pub decode_none : (p : Plan) (values : List ℕ) → decode_refusal p values ≡ 0 ↔ DecodeOk p values
unfolding decode_refusal
decode_none p values =
    Iff.trans (loose_none p (shape_none values (values_length p.d p.l)))
    (λ t. record { plan = t.0; values_long = t.1 }, λ k. (k.plan, k.values_long))

-- What check asks.
pub record CheckOk (p : Plan) (scalars : List ℕ) : Type 0 where
  pub plan : PlanOk p
  pub scalars_long : length scalars ≡ scalars_length p.d p.l
  pub fit : ScalarsFit p.d p.l scalars

-- Check refuses nothing exactly where that is so.
pub check_none : (p : Plan) (scalars : List ℕ) → check_refusal p scalars ≡ 0 ↔ CheckOk p scalars
unfolding check_refusal
check_none p scalars =
    Iff.trans (then_says (loose_none p (shape_none scalars (scalars_length p.d p.l))) (scalars_none p.d p.l scalars))
    (λ t. record { plan = t.0.0; scalars_long = t.0.1; fit = t.1 }, λ k. ((k.plan, k.scalars_long), k.fit))

-- What step asks.
pub record StepOk (w : Walk) (n : ℕ) : Type 0 where
  pub dimension : (1 ≤ w.d) × (w.d ≤ 8)
  pub walk : WalkOk w
  pub number : n < 2 ^ w.d

-- Step refuses nothing exactly where that is so.
pub step_none : (w : Walk) (n : ℕ) → step_refusal w n ≡ 0 ↔ StepOk w n
unfolding step_refusal
step_none w n =
    Iff.trans (then_says (dim_none w.d) (then_says (walk_order_none w) (step_shape_none w.d n)))
    (λ t. record { dimension = t.0; walk = t.1.0; number = t.1.1 }, λ k. (k.dimension, (k.walk, k.number)))

-- What trace asks.
pub record TraceOk (p : Plan) (trace : List ℕ) : Type 0 where
  pub plan : PlanOk p
  pub trace_long : length trace ≡ trace_length p.d p.l

-- Trace refuses nothing exactly where that is so.
pub trace_none : (p : Plan) (trace : List ℕ) → trace_refusal p trace ≡ 0 ↔ TraceOk p trace
unfolding trace_refusal
trace_none p trace =
    Iff.trans (loose_none p (shape_none trace (trace_length p.d p.l)))
    (λ t. record { plan = t.0; trace_long = t.1 }, λ k. (k.plan, k.trace_long))

-- What the plain run and the difference run ask.
pub record RunOk (p : Plan) (m : ℕ) (elements registers : List ℕ) : Type 0 where
  pub plan : PlanOk p
  pub elements_long : length elements ≡ elements_length p.d
  pub registers_long : length registers ≡ registers_length p.d
  pub modulus : m ≤ 2 ^ 63
  pub below : (m ≡ 0) ⊎ ((j : ℕ) → j < length elements → get_or elements j 0 < m)

-- Both runs refuse nothing exactly where that is so.
pub run_none : (p : Plan) (m : ℕ) (elements registers : List ℕ) → run_refusal p m elements registers ≡ 0 ↔ RunOk p m elements registers
unfolding run_refusal
run_none p m elements registers =
    Iff.trans
    (then_says
    (loose_none p (then_says (shape_none elements (elements_length p.d)) (shape_none registers (registers_length p.d))))
    (then_says (too_large_none m) (element_none m elements))) (
      λ t. record { plan = t.0.0; elements_long = t.0.1.0; registers_long = t.0.1.1; modulus = t.1.0; below = t.1.1 },
      λ k. ((k.plan, (k.elements_long, k.registers_long)), (k.modulus, k.below)),
    )

-- What pack asks.
pub record PackOk (p : Plan) (file : List ℕ) : Type 0 where
  pub plan : PlanOk p
  pub file_long : length file ≡ file_length p.d p.l

-- Pack refuses nothing exactly where that is so.
pub pack_none : (p : Plan) (file : List ℕ) → pack_refusal p file ≡ 0 ↔ PackOk p file
unfolding pack_refusal
pack_none p file =
    Iff.trans (loose_none p (shape_none file (file_length p.d p.l)))
    (λ t. record { plan = t.0; file_long = t.1 }, λ k. (k.plan, k.file_long))

-- What unpack asks.
pub record UnpackOk (file : List ℕ) : Type 0 where
  pub twelve : 12 ≤ length file
  pub marked : mark_in file ≡ mark
  pub far : distance_in file ≡ body_length (d_in file) (l_in file)
  pub before : distance_in file + trailer_size ≤ length file
  pub plan : Accepted (plan_in file)

-- Unpack refuses nothing exactly where that is so.
pub unpack_none : (file : List ℕ) → unpack_refusal file ≡ 0 ↔ UnpackOk file
unfolding unpack_refusal
unpack_none file =
    Iff.trans (then_says (trailer_none file) (plan_none (plan_in file) (distance_none file))) (
      λ t. record { twelve = t.0.0; marked = t.0.1; far = t.1.1.0; before = t.1.1.1; plan = t.1.0 },
      λ k. ((k.twelve, k.marked), (k.plan, (k.far, k.before))),
    )

-- What the listing program asks.
pub record ListOk (file : List ℕ) : Type 0 where
  pub small : length file ≤ 4096
  pub unpack : UnpackOk file

-- The listing program refuses nothing exactly where that is so.
pub list_none : (file : List ℕ) → list_refusal file ≡ 0 ↔ ListOk file
unfolding list_refusal
list_none file =
    Iff.trans (then_says (big_none file) (unpack_none file)) (λ t. record { small = t.0; unpack = t.1 }, λ k. (k.small, k.unpack))

-- What the listing asks.
pub record ListingOk (file text : List ℕ) : Type 0 where
  pub small : length file ≤ 4096
  pub text_long : length text ≡ longest_text
  pub unpack : UnpackOk file

-- The listing refuses nothing exactly where that is so.
pub listing_none : (file text : List ℕ) → listing_refusal file text ≡ 0 ↔ ListingOk file text
unfolding listing_refusal
listing_none file text =
    Iff.trans (then_says (big_none file) (then_says (shape_none text longest_text) (unpack_none file)))
    (λ t. record { small = t.0; text_long = t.1.0; unpack = t.1.1 }, λ k. (k.small, (k.text_long, k.unpack)))
