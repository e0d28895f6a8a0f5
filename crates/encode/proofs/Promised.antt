-- What follows from encode's promise alone, for crates above, after two laws of the scalars that it speaks of. Rests on the theorems about
-- encoding (Demand2, Lengths), on what an input that is not refused is (`encode_none`), and on the promise fixing its answers
-- (`encode_unique`).
-- Assumes nothing.
use Prim.Native.Nat.{ℕ, ◌*◌, ◌^◌, ◌<◌}
use mathlib.Core.Path.{◌≡◌, refl, sym, ap, subst, ◌∙◌}
use mathlib.Core.Logic.Iff
use mathlib.Core.Logic.{◌≢◌, ◌↔◌}
use mathlib.Core.List.{List, [], ◌∷◌}
use native.Mathlib.Omega.{arith}
use lib.ListN.{length, get_or}
use Rattle.ladder.specs.Lists.{tabulate, all}
use Rattle.ladder.specs.Numbers.{number_of, numbers_of, bytes_for, scalar_words, scalars_length, start_length, bits_length}
use Rattle.ladder.specs.Plan.{Plan, plan_lent, answer_row}
use Rattle.ladder.specs.Encoding.{encode_with, encode}
use Rattle.ladder.specs.Refusals.{◌then◌, unless, refusing, within, dim, len, shape, scalar, loose_refusal, scalars_in, encode_refusal}
use Rattle.ladder.proofs.Tests.{refusing_no, refusing_yes}
use Rattle.ladder.proofs.Numbers.{length-numbers_of, numbers_of_below}
use Rattle.ladder.proofs.HouseOrder.{house_arrangement}
use Rattle.ladder.proofs.Refusals.{Accepted}
use Rattle.ladder.proofs.Operations.{EncodeOk, PlanOk, loose_none, encode_none}
use Rattle.ladder.proofs.Demand2.{decode_encode}
use Rattle.ladder.proofs.Lengths.{encoded_not_refused}
use Rattle.ladder.proofs.WorkedCases.{case_holds}
use Rattle.encode.specs.Promise.{EncodePromise}
use Rattle.encode.proofs.Unique.{encode_unique}

-- ---- scalars in lent words

-- There are d of them ..
pub scalars_length_lem : (d l : ℕ) (scalars : List ℕ) → length (scalars_in d l scalars) ≡ d
unfolding scalars_in
scalars_length_lem d l scalars = length-numbers_of d (scalar_words l) scalars

-- .. and those of k words are below 2^(64k).
pub scalars_below : (d l : ℕ) (scalars : List ℕ) → length scalars ≡ scalars_length d l → ((i : ℕ) → get_or scalars i 0 < 2 ^ 64)
    → (j : ℕ) → get_or (scalars_in d l scalars) j 0 < 2 ^ (64 * scalar_words l)
unfolding scalars_in scalars_length
scalars_below d l scalars = numbers_of_below d (scalar_words l) scalars

-- ---- refused or not

module _ {d l : ℕ} {scalars start bits : List ℕ} {refusal row : ℕ} {startAfter bitsAfter : List ℕ}
    (promise : EncodePromise d l scalars start bits refusal row startAfter bitsAfter) where
  -- What the call left, with the row that it answered.
  abbrev plan : Plan
  plan = plan_lent d l startAfter bitsAfter row

  -- The refusal is 0 exactly where the input is what encode asks.
  pub encode_accepts : refusal ≡ 0 ↔ EncodeOk d l scalars start bits
  encode_accepts = subst (λ n. n ≡ 0 ↔ EncodeOk d l scalars start bits) (sym promise.refusal_is) (encode_none d l scalars start bits)

  -- On refusal the row is 0, and both outputs are as they came.
  pub encode_refused : refusal ≢ 0 → (row ≡ 0) × (startAfter ≡ start) × (bitsAfter ≡ bits)
  encode_refused some = (
    promise.row_is ∙ refusing_yes _ _ _ some,
    promise.start_is ∙ refusing_yes _ _ _ some,
    promise.bits_are ∙ refusing_yes _ _ _ some,
  )

  module _ (ok : EncodeOk d l scalars start bits) where
    -- On accepted input the refusal is 0 ..
    pub encode_accepted : refusal ≡ 0
    encode_accepted = encode_accepts.1 ok

    -- .. and what is written is the plan of the scalars.
    pub encode_writes : plan ≡ encode d l (scalars_in d l scalars)
    unfolding encode encode_with
    encode_writes =
        let answered = promise.row_is ∙ refusing_no _ 0 (encode d l (scalars_in d l scalars)).answer encode_accepted in
        let order = promise.start_is ∙ refusing_no _ start (encode d l (scalars_in d l scalars)).start encode_accepted in
        let bytes = promise.bits_are ∙ refusing_no _ bits (encode d l (scalars_in d l scalars)).bits encode_accepted in
        rw (answered, order, bytes)

    -- As a plan it is not refused ..
    pub encode_not_refused : loose_refusal plan 0 ≡ 0
    unfolding encode
    encode_not_refused =
        let wide = scalars_length_lem d l scalars in
        rw encode_writes
        (encoded_not_refused l (scalars_in d l scalars) (house_arrangement d (scalars_in d l scalars) wide) wide
        ok.dimension.0 ok.dimension.1 ok.steps.0 ok.steps.1)

    -- .. its buffers have their lengths ..
    pub encode_plan_ok : PlanOk plan
    encode_plan_ok = ((loose_none _ Iff.rfl).0 encode_not_refused).0

    pub encode_plan : Accepted plan
    encode_plan = encode_plan_ok.plan

    -- .. and its answer row is the scalars.
    pub encode_decodes : answer_row plan ≡ scalars_in d l scalars
    encode_decodes = rw encode_writes (decode_encode d l (scalars_in d l scalars) (scalars_length_lem d l scalars) ok.fit)

-- ---- nothing is constant

-- The promise is met by the plan of the scalars, where nothing is refused.
met : (d l : ℕ) (scalars start bits : List ℕ) {places bytes : List ℕ} {row : ℕ} → encode_refusal d l scalars start bits ≡ 0
    → encode d l (scalars_in d l scalars) ≡ plan_lent d l places bytes row
    → EncodePromise d l scalars start bits 0 row places bytes
unfolding refusing
met d l scalars start bits none e = record {
  refusal_is = sym none;
  row_is = ap (λ p. p.answer) (sym e);
  start_is = ap (λ p. p.start) (sym e);
  bits_are = ap (λ p. p.bits) (sym e);
}

-- Four of the worked cases. d 1, l 1: 0 gives 00 and row 1, 1 gives 80 and row 2. d 2, l 2: 2, 1 give start order 1 2, and 3, 3 give 2 1.
given :
    EncodePromise 1 1 (0 ∷ []) (0 ∷ []) (0 ∷ []) 0 1 (1 ∷ []) (0x00 ∷ [])
    × EncodePromise 1 1 (1 ∷ []) (0 ∷ []) (0 ∷ []) 0 2 (1 ∷ []) (0x80 ∷ [])
    × EncodePromise 2 2 (2 ∷ 1 ∷ []) (0 ∷ 0 ∷ []) (0 ∷ []) 0 2 (1 ∷ 2 ∷ []) (0xb0 ∷ [])
    × EncodePromise 2 2 (3 ∷ 3 ∷ []) (0 ∷ 0 ∷ []) (0 ∷ []) 0 3 (2 ∷ 1 ∷ []) (0xc0 ∷ [])
unfolding tabulate all number_of numbers_of bytes_for scalar_words scalars_length start_length bits_length ◌then◌ unless within dim len shape scalar scalars_in encode_refusal
given = (
  met _ _ _ _ _ refl (case_holds 1).0,
  met _ _ _ _ _ refl (case_holds 2).0,
  met _ _ _ _ _ refl (case_holds 4).0,
  met _ _ _ _ _ refl (case_holds 9).0,
)

-- No one start order meets the promise for 2, 1 and for 3, 3 ..
pub no_constant_start : {r r' row row' : ℕ} {S bits bits' : List ℕ} → EncodePromise 2 2 (2 ∷ 1 ∷ []) (0 ∷ 0 ∷ []) (0 ∷ []) r row S bits
    → EncodePromise 2 2 (3 ∷ 3 ∷ []) (0 ∷ 0 ∷ []) (0 ∷ []) r' row' S bits' → ⊥
no_constant_start p q =
    let a = (encode_unique p given.2).2 in
    let b = (encode_unique q given.3).2 in
    let z : ◌≡◌ {A = ℕ} 1 2 = cc in
    omega arith

-- .. no one list of bits for 0 and for 1 ..
pub no_constant_bits : {r r' row row' : ℕ} {start start' B : List ℕ} → EncodePromise 1 1 (0 ∷ []) (0 ∷ []) (0 ∷ []) r row start B
    → EncodePromise 1 1 (1 ∷ []) (0 ∷ []) (0 ∷ []) r' row' start' B → ⊥
no_constant_bits p q =
    let a = (encode_unique p given.0).3 in
    let b = (encode_unique q given.1).3 in
    let z : ◌≡◌ {A = ℕ} 0x00 0x80 = cc in
    omega arith

-- .. and no one row.
pub no_constant_row : {r r' row : ℕ} {start start' bits bits' : List ℕ} → EncodePromise 1 1 (0 ∷ []) (0 ∷ []) (0 ∷ []) r row start bits
    → EncodePromise 1 1 (1 ∷ []) (0 ∷ []) (0 ∷ []) r' row start' bits' → ⊥
no_constant_row p q = omega (arith, (encode_unique p given.0).1, (encode_unique q given.1).1)
