-- What decode, check and the runs answer to what encode wrote: from the promises alone.
-- Assumes nothing.
use Prim.Native.Nat.{ℕ, ◌*◌, ◌%◌, ◌^◌, ◌≤◌, ◌<◌}
use mathlib.Core.Path.{◌≡◌, sym, ap, subst, ◌∙◌}
use mathlib.Core.Logic.{◌≢◌, ◌⊎◌}
use mathlib.Core.Bool.{Bool, true, false}
use mathlib.Core.List.{List, [], ◌∷◌, ◌++◌, flatten}
use native.Mathlib.Omega.{arith}
use lib.ListN.{length, get_or, drop, length-drop}
use lib.Seq.{length-take-le}
use Rattle.ladder.specs.Lists.{tabulate}
use Rattle.ladder.specs.Numbers.{number_of, numbers_of, words_of, words_of_all, scalar_words, value_words, values_length, scalars_length, elements_length, registers_length}
use Rattle.ladder.specs.Plan.{Plan, plan_lent, answer_row, values_in}
use Rattle.ladder.specs.Registers.{combination}
use Rattle.ladder.specs.Refusals.{scalars_in}
use Rattle.ladder.proofs.Lists.{map-tabulate, tabulate-same}
use Rattle.ladder.proofs.Numbers.{words_of-number_of, words_of_all-numbers_of, value_words_full, own, own_below, number_at, own_within}
use Rattle.ladder.proofs.Tests.{refusing_no}
use Rattle.ladder.proofs.Operations.{EncodeOk, RunOk}
use Rattle.ladder.proofs.Demand2.{decode_words}
use Rattle.encode.specs.Promise.{EncodePromise}
use Rattle.encode.proofs.Promised.{encode_plan, encode_plan_ok, encode_decodes}
use Rattle.decode.specs.Promise.{DecodePromise}
use Rattle.decode.proofs.Promised.{decode_accepted}
use Rattle.checking.specs.Promise.{CheckPromise}
use Rattle.checking.proofs.Promised.{check_accepts}
use Rattle.checking.proofs.Equality.{lists_same}
use Rattle.run.specs.Promise.{PlainPromise}
use Rattle.run.specs.declared.answer.Ran.{Ran}
use Rattle.run.proofs.Promised.{run_accepted, run_answer}

module _ {d l : ℕ} {scalars start bits : List ℕ} {refusal row : ℕ} {startAfter bitsAfter : List ℕ}
    (promise : EncodePromise d l scalars start bits refusal row startAfter bitsAfter) (ok : EncodeOk d l scalars start bits) where
  abbrev plan : Plan
  plan = plan_lent d l startAfter bitsAfter row

  -- Decode of what encode wrote refuses nothing and gives the scalars, as numbers ..
  pub decode_encoded : (values valuesAfter : List ℕ) (r : ℕ) → length values ≡ values_length d l → DecodePromise plan values r valuesAfter
      → (r ≡ 0) × (numbers_of d (value_words l) valuesAfter ≡ scalars_in d l scalars)
  decode_encoded values valuesAfter r long x =
      let got = decode_accepted x (record { plan = encode_plan_ok promise ok; values_long = long }) in
      (got.0, ap (numbers_of d (value_words l)) got.1 ∙ decode_words plan (encode_plan promise ok) ∙ encode_decodes promise ok)

  -- .. and as words, whose columns are those of the scalars ..
  pub decode_encoded_words : (values valuesAfter : List ℕ) (r : ℕ) → length values ≡ values_length d l → DecodePromise plan values r valuesAfter
      → valuesAfter ≡ words_of_all (value_words l) (scalars_in d l scalars)
  unfolding values_in
  decode_encoded_words values valuesAfter r long x =
      (decode_accepted x (record { plan = encode_plan_ok promise ok; values_long = long })).1 ∙ ap (words_of_all (value_words l)) (encode_decodes promise ok)

  module _ (words : (i : ℕ) → get_or scalars i 0 < 2 ^ 64) (values valuesAfter : List ℕ) (r : ℕ) (long : length values ≡ values_length d l)
      (decoded : DecodePromise plan values r valuesAfter) where
    -- .. the very words of the scalars where 64 does not divide l ..
    pub decode_encoded-same : l % 64 ≢ 0 → valuesAfter ≡ scalars
    unfolding scalars_in scalars_length
    decode_encoded-same e =
        let same : value_words l ≡ scalar_words l = unfold value_words scalar_words in omega arith in
        decode_encoded_words values valuesAfter r long decoded
        ∙ ap (λ k. words_of_all k (numbers_of d (scalar_words l) scalars)) same
        ∙ words_of_all-numbers_of d (scalar_words l) scalars ok.scalars_long words

    -- .. and each scalar's words, then a zero word, where it does.
    pub decode_encoded_full : l % 64 ≡ 0 → valuesAfter ≡ flatten (tabulate d (λ j. own (scalar_words l) scalars j ++ (0 ∷ [])))
    unfolding scalars_in scalars_length words_of_all numbers_of
    decode_encoded_full e =
        decode_encoded_words values valuesAfter r long decoded
        ∙ ap flatten (map-tabulate (words_of (value_words l)) d (λ j. number_of (own (scalar_words l) scalars j)) ∙ tabulate-same d _ _ column)
      where
        column : (j : ℕ) → j < d
            → words_of (value_words l) (number_of (own (scalar_words l) scalars j)) ≡ own (scalar_words l) scalars j ++ (0 ∷ [])
        column j h =
            let k = scalar_words l in
            let inside = own_within d k (length scalars) j ok.scalars_long h in
            let small : number_of (own k scalars j) < 2 ^ l =
            subst (λ n. n < 2 ^ l) (number_at d k scalars j h) (ok.fit j h) in
            value_words_full l (number_of (own k scalars j)) small e
            ∙ ap (λ ws. ws ++ (0 ∷ [])) (words_of-number_of k (own k scalars j)
            (length-take-le k (drop (j * k) scalars) (omega (arith, length-drop (j * k) scalars))) (own_below k scalars words j))

  -- Check of it says yes.
  pub check_encoded : (r : ℕ) (said : Bool) → CheckPromise plan scalars r said → (r ≡ 0) × (said ≡ true)
  check_encoded r said x =
      let z = (check_accepts x).1 (record { plan = encode_plan_ok promise ok; scalars_long = ok.scalars_long; fit = ok.fit }) in
      (z, x.yes_is ∙ refusing_no _ false _ z ∙ sym (lists_same (answer_row plan) (scalars_in d l scalars) (encode_decodes promise ok)))

-- Over what encode wrote a run refuses nothing where the modulus, the elements and the registers are right, and its answer is the
-- combination of the elements by the scalars.
pub run_encoded : {d l : ℕ} {scalars start bits : List ℕ} {refusal row : ℕ} {startAfter bitsAfter : List ℕ}
    → EncodePromise d l scalars start bits refusal row startAfter bitsAfter → EncodeOk d l scalars start bits
    → (m : ℕ) (elements : List ℕ) {registers : List ℕ} {n : ℕ} {r : Ran} {registers_after : List ℕ}
    → PlainPromise (plan_lent d l startAfter bitsAfter row) m elements registers n r registers_after
    → length elements ≡ elements_length d → length registers ≡ registers_length d → m ≤ 2 ^ 63
    → (m ≡ 0) ⊎ ((j : ℕ) → j < length elements → get_or elements j 0 < m)
    → (n ≡ 0) × (r.answer ≡ combination m elements (scalars_in d l scalars))
run_encoded {d} {l} {scalars} {row = row} {startAfter} {bitsAfter} encoded eok m elements {registers} promise many room high below =
    let ok : RunOk (plan_lent d l startAfter bitsAfter row) m elements registers = record {
      plan = encode_plan_ok encoded eok;
      elements_long = many;
      registers_long = room;
      modulus = high;
      below = below;
    } in
    (run_accepted m elements promise ok, run_answer m elements promise ok ∙ ap (combination m elements) (encode_decodes encoded eok))
