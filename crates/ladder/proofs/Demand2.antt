-- Demand 2: from scalars comes a plan whose answer row is the scalars; a plan is the encoding of the scalars that its last matrix
-- ends in, with its end order, and no other; evaluating a plan gives the same combination as its answer row.
-- Assumes nothing.
use Prim.Native.Nat.{ℕ, suc, pred, min, ◌+◌, ◌-◌, ◌*◌, ◌%◌, ◌^◌, ◌≤◌, ◌<◌}
use mathlib.Core.Path.{◌≡◌, sym, ap, subst, ◌∙◌}
use mathlib.Core.List.{List, [], map}
use native.Mathlib.Omega.{arith}
use lib.ListN.{length, get_or}
use lib.Seq.{ext_get_or}
use Rattle.ladder.specs.Lists.{tabulate, odds}
use Rattle.ladder.specs.Numbers.{numbers_of, words_of_all, bit_at, pack_bits, bits_length, value_words, bits_at}
use Rattle.ladder.specs.Matrix.{row, entry, Arrangement, StateMatrix, matrix_after, order_after}
use Rattle.ladder.specs.Plan.{Plan, start_order, step_bits, matrix_in, order_in, last_matrix, end_order, answer_row, values_in}
use Rattle.ladder.specs.Encoding.{encoded_start, encoded_bits, encode_with, encode}
use Rattle.ladder.specs.Registers.{combination, modulus, plain_registers, difference_registers, answer_register}
use Rattle.ladder.proofs.Lists.{length-tabulate, get_or-tabulate, get_or-map, joined_same, odds_le}
use Rattle.ladder.proofs.Numbers.{numbers_of-words_of_all, value_fits}
use Rattle.ladder.proofs.Bits.{step_of_packed, pack_bits_of, bits_in_order, length-step_bits, step_bits_below}
use Rattle.ladder.proofs.Stairs.{stairs}
use Rattle.ladder.proofs.Ladder.{matrix_same, order_same, state_after}
use Rattle.ladder.proofs.HouseOrder.{house_arrangement, house_odd_first}
use Rattle.ladder.proofs.OnePlan.{first_by_lower, last_by_lower, scalar_fits, start_back, bits_back}
use Rattle.ladder.proofs.Encoding.{start_arranged, length-encoded_bits, encoded_bits_below, encoded_first_row, encoded_last_row, encoded_end, OddFirst, encoded-answer}
use Rattle.ladder.proofs.Registers.{plain_registers_lem}
use Rattle.ladder.proofs.Walk.{pred-suc}
use Rattle.ladder.proofs.Refusals.{Accepted}
use Rattle.ladder.proofs.Demand3.{state_in, bound_in, runs_in}

-- A plan ends in scalars where column j of its last matrix has scalar plus its lowest bit in row 0 (the rules' row 1), and scalar
-- plus 1 minus its lowest bit in row d (the rules' row d+1). To decode to them with the house order at the end is not enough: with
-- d 1, l 2, start order 1 and answer row 1 the bits C0 and 40 both decode to 2, but C0 ends in 2 and 40 in 1.
pub record EndsIn (p : Plan) (ks : List ℕ) : Type 0 where
  pub long : length ks ≡ p.d
  pub first : (j : ℕ) → j < p.d → entry (last_matrix p) 0 j ≡ get_or ks j 0 + get_or ks j 0 % 2
  pub last : (j : ℕ) → j < p.d → entry (last_matrix p) p.d j ≡ get_or ks j 0 + (1 - get_or ks j 0 % 2)

-- ---- what is encoded

module _ {d : ℕ} (l : ℕ) (ks : List ℕ) {E : List ℕ} (a : Arrangement d E) where
  -- The plan has the start order and the bits of each step that were worked out.
  pub encoded_start_order : start_order (encode_with d l ks E) ≡ encoded_start l ks E
  unfolding start_order encode_with
  encoded_start_order = pred-suc (encoded_start l ks E)

  pub encoded-step_bits : (s : ℕ) → s < l → step_bits (encode_with d l ks E) s ≡ encoded_bits l ks E s
  unfolding bits_at encode_with
  encoded-step_bits s h =
      step_of_packed d l (encoded_bits l ks E) (λ t q. length-encoded_bits l ks a t) (encoded_bits_below l ks a) s h

  pub encoded_last_matrix : last_matrix (encode_with d l ks E) ≡ matrix_after d (encoded_start l ks E) (encoded_bits l ks E) l
  unfolding last_matrix matrix_in encode_with
  encoded_last_matrix =
      ap (λ S. matrix_after d S (step_bits (encode_with d l ks E)) l) encoded_start_order
      ∙ matrix_same d (encoded_start l ks E) (step_bits (encode_with d l ks E)) (encoded_bits l ks E) l encoded-step_bits

  -- The order of the last matrix is the end order.
  pub encoded_end_order : end_order (encode_with d l ks E) ≡ E
  unfolding end_order order_in encode_with
  encoded_end_order =
      ap (λ S. order_after S (step_bits (encode_with d l ks E)) l) encoded_start_order
      ∙ order_same (encoded_start l ks E) (step_bits (encode_with d l ks E)) (encoded_bits l ks E) l encoded-step_bits
      ∙ encoded_end l ks a

  -- The last matrix is a state matrix, and its order is the end order.
  pub encoded_state : StateMatrix d (last_matrix (encode_with d l ks E)) E
  encoded_state =
      rw encoded_last_matrix
      (subst (StateMatrix d _) (encoded_end l ks a) (state_after (start_arranged l ks a) (encoded_bits l ks E) (length-encoded_bits l ks a) l))

  -- In column j the last matrix has scalar plus its lowest bit in row 0 (the rules' row 1), and scalar plus 1 minus its lowest
  -- bit in row d (the rules' row d+1).
  pub first_row-encoded : ((j : ℕ) → j < d → get_or ks j 0 < 2 ^ l) → (j : ℕ) → j < d
      → entry (last_matrix (encode_with d l ks E)) 0 j ≡ get_or ks j 0 + get_or ks j 0 % 2
  first_row-encoded fits j h = ap (λ B. entry B 0 j) encoded_last_matrix ∙ encoded_first_row l ks a fits j h

  pub last_row-encoded : ((j : ℕ) → j < d → get_or ks j 0 < 2 ^ l) → (j : ℕ) → j < d
      → entry (last_matrix (encode_with d l ks E)) d j ≡ get_or ks j 0 + (1 - get_or ks j 0 % 2)
  last_row-encoded fits j h = ap (λ B. entry B d j) encoded_last_matrix ∙ encoded_last_row l ks a fits j h

  -- So it ends in the scalars.
  pub encoded_ends_in : length ks ≡ d → ((j : ℕ) → j < d → get_or ks j 0 < 2 ^ l) → EndsIn (encode_with d l ks E) ks
  unfolding encode_with
  encoded_ends_in wide fits = record { long = wide; first = first_row-encoded fits; last = last_row-encoded fits }

  -- With every odd scalar's column before every even one's, decoding gives the scalars.
  pub decode_encode_with : length ks ≡ d → ((j : ℕ) → j < d → get_or ks j 0 < 2 ^ l) → OddFirst d ks E
      → answer_row (encode_with d l ks E) ≡ ks
  unfolding answer_row encode_with
  decode_encode_with wide fits f = ap (λ B. row B (odds ks)) encoded_last_matrix ∙ encoded-answer l ks a wide fits f

  -- What is encoded is accepted.
  pub encoded_accepted : length ks ≡ d → 1 ≤ d → d ≤ 8 → 1 ≤ l → l ≤ 576 → Accepted (encode_with d l ks E)
  unfolding encode_with
  encoded_accepted wide h₁ h₂ h₃ h₄ = record {
    d_low = h₁;
    d_high = h₂;
    l_low = h₃;
    l_high = h₄;
    start = subst (Arrangement d) (sym encoded_start_order) (start_arranged l ks a);
    columns = ap (map suc) (sym encoded_start_order);
    answer_low = omega arith;
    answer_high = omega (arith, odds_le ks);
  }

-- Decoding what was encoded with the house order gives the scalars.
pub decode_encode : (d l : ℕ) (ks : List ℕ) → length ks ≡ d → ((j : ℕ) → j < d → get_or ks j 0 < 2 ^ l)
    → answer_row (encode d l ks) ≡ ks
unfolding encode
decode_encode d l ks wide fits =
    decode_encode_with l ks (house_arrangement d ks wide) wide fits (house_odd_first d ks wide)

-- ---- the plan of scalars

-- A plan ends in no two lists of scalars.
pub ends_in_one : {p : Plan} {ks qs : List ℕ} → EndsIn p ks → EndsIn p qs → ks ≡ qs
ends_in_one {p} {ks} {qs} e f =
    ext_get_or 0 ks qs (e.long ∙ sym f.long)
    (λ j h. let b : j < p.d = omega (arith, e.long) in omega (arith, e.first j b, e.last j b, f.first j b, f.last j b))

module _ (p : Plan) (ok : Accepted p) where
  -- Every accepted plan ends in some scalars ..
  pub ends_in_some : (ks : List ℕ) × EndsIn p ks
  unfolding last_matrix
  ends_in_some = (
    tabulate p.d lowest,
    record {
      long = length-tabulate p.d lowest;
      first = λ j h. rw (get_or-tabulate p.d lowest j 0 h) (first_by_lower (stairs (state_in p ok p.l)) j h);
      last = λ j h. rw (get_or-tabulate p.d lowest j 0 h) (last_by_lower (stairs (state_in p ok p.l)) j h);
    },
  )
    where
      lowest : ℕ → ℕ
      lowest j = min (entry (last_matrix p) 0 j) (entry (last_matrix p) p.d j)

  module _ {ks : List ℕ} (e : EndsIn p ks) where
    -- .. and they have l bits.
    pub ends_in_fit : (j : ℕ) → j < p.d → get_or ks j 0 < 2 ^ p.l
    unfolding last_matrix matrix_in
    ends_in_fit = scalar_fits p.l ok.start (step_bits p) (length-step_bits p) (step_bits_below p) ks e.first e.last

    -- The plan, not a plan: it has the start order that these scalars and its end order give ..
    pub plan_of_scalars_start : p.start ≡ (encode_with p.d p.l ks (end_order p)).start
    unfolding encode_with last_matrix matrix_in end_order order_in
    plan_of_scalars_start =
        ok.columns
        ∙ ap (map suc) (sym (start_back p.l ok.start (step_bits p) (length-step_bits p) (step_bits_below p) ks e.first e.last))

    -- .. the bits of each step ..
    worked_out : (s : ℕ) → s < p.l → encoded_bits p.l ks (end_order p) s ≡ step_bits p s
    unfolding last_matrix matrix_in end_order order_in
    worked_out = bits_back p.l ok.start (step_bits p) (length-step_bits p) (step_bits_below p) ks e.first e.last

    pub plan_of_scalars_bits : (s : ℕ) → s < p.l → step_bits p s ≡ step_bits (encode_with p.d p.l ks (end_order p)) s
    unfolding end_order
    plan_of_scalars_bits s h = sym (encoded-step_bits p.l ks (state_in p ok p.l).order s h ∙ worked_out s h)

    -- .. and, where the filling bits are 0, the very bytes.
    pub plan_of_scalars_bytes : length p.bits ≡ bits_length p.d p.l → ((i : ℕ) → get_or p.bits i 0 < 256)
        → ((i : ℕ) → p.l * p.d ≤ i → bit_at p.bits i ≡ 0)
        → p.bits ≡ (encode_with p.d p.l ks (end_order p)).bits
    unfolding encode_with bits_length bits_at
    plan_of_scalars_bytes long bytes filling =
        sym
        (ap pack_bits
        (joined_same p.l (encoded_bits p.l ks (end_order p)) (step_bits p) worked_out ∙ bits_in_order p.bits p.d p.l)
        ∙ pack_bits_of p.bits (p.l * p.d) bytes long filling)

-- ---- what is decoded

module _ (p : Plan) (ok : Accepted p) where
  answer_place : pred p.answer ≤ p.d
  answer_place = omega (arith, ok.answer_high)

  -- The answer row has d entries of at most 2^l ..
  pub answer_wide : length (answer_row p) ≡ p.d
  unfolding answer_row last_matrix
  answer_wide = (state_in p ok p.l).wide (pred p.answer) answer_place

  pub answer_bound : (j : ℕ) → get_or (answer_row p) j 0 ≤ 2 ^ p.l
  unfolding answer_row last_matrix
  answer_bound j = bound_in p ok p.l (pred p.answer) j answer_place

  -- .. so floor(l / 64) + 1 words hold each: the words that decoding writes are the answer row.
  pub decode_words : numbers_of p.d (value_words p.l) (values_in p) ≡ answer_row p
  unfolding values_in
  decode_words =
      ap (λ n. numbers_of n (value_words p.l) (words_of_all (value_words p.l) (answer_row p))) (sym answer_wide)
      ∙ numbers_of-words_of_all (value_words p.l) (answer_row p) (λ j. value_fits p.l (get_or (answer_row p) j 0) (answer_bound j))

  -- ---- what is evaluated

  -- After each step the registers are the rows' combinations by the modulus.
  pub registers_in : (m : ℕ) (es : List ℕ) (n : ℕ) → plain_registers p m es n ≡ map (combination m es) (matrix_in p n)
  unfolding plain_registers matrix_in
  registers_in m es n = plain_registers_lem m es ok.start (step_bits p) (length-step_bits p) n

  -- The answer is the combination of the elements by the answer row.
  pub answer_register_lem : (m : ℕ) (es : List ℕ) → answer_register p (plain_registers p m es p.l) ≡ combination m es (answer_row p)
  unfolding answer_register answer_row last_matrix
  answer_register_lem m es =
      ap (λ q. get_or q (pred p.answer) 0) (registers_in m es p.l)
      ∙ get_or-map (combination m es) (matrix_in p p.l) (pred p.answer) [] 0
      (omega (arith, (state_in p ok p.l).rows, answer_place))

  -- So is the difference run's.
  pub answer_register_difference : (m : ℕ) (es : List ℕ) → ((j : ℕ) → get_or es j 0 ≤ modulus m)
      → answer_register p (difference_registers p m es p.l) ≡ combination m es (answer_row p)
  answer_register_difference m es fits =
      ap (answer_register p) (runs_in p ok m es fits p.l) ∙ answer_register_lem m es

-- Over what was encoded it is the combination of the elements by the scalars.
pub encoded_register : (d l : ℕ) (ks : List ℕ) → length ks ≡ d → ((j : ℕ) → j < d → get_or ks j 0 < 2 ^ l)
    → 1 ≤ d → d ≤ 8 → 1 ≤ l → l ≤ 576 → (m : ℕ) (es : List ℕ)
    → answer_register (encode d l ks) (plain_registers (encode d l ks) m es l) ≡ combination m es ks
unfolding encode encode_with
encoded_register d l ks wide fits h₁ h₂ h₃ h₄ m es =
    answer_register_lem (encode d l ks) (encoded_accepted l ks (house_arrangement d ks wide) wide h₁ h₂ h₃ h₄) m es
    ∙ ap (combination m es) (decode_encode d l ks wide fits)
