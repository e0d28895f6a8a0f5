-- The promise is kept on refusal and on accepted input, whose scalars are what the core reads.
-- Assumes nothing.
use Prim.Native.Nat.{ℕ, suc, ◌+◌, ◌≤◌}
use mathlib.Core.Path.{◌≡◌, sym, ap, ◌∙◌}
use mathlib.Core.List.{List, map}
use native.Mathlib.Numerals.{add-one}
use native.Mathlib.Omega.{arith}
use lib.ListN.{length}
use Rattle.ladder.specs.Lists.{joined, odds}
use Rattle.ladder.specs.Numbers.{scalar_words, numbers_of, scalars_length, start_length, bits_length, pack_bits}
use Rattle.ladder.specs.Matrix.{Arrangement}
use Rattle.ladder.specs.Encoding.{encoded_start, encoded_bits, encode_with, house_order, encode}
use Rattle.ladder.specs.Refusals.{scalars_in, encode_refusal}
use Rattle.ladder.proofs.Lists.{odds_le}
use Rattle.ladder.proofs.Numbers.{length-numbers_of}
use Rattle.ladder.proofs.HouseOrder.{house_arrangement}
use Rattle.ladder.proofs.Operations.{EncodeOk, encode_none}
use Rattle.refusal.specs.declared.Refusal.{Refusal}
use Rattle.refusal.specs.Answers.{number}
use Rattle.refusal.proofs.Laws.{refused, accepted}
use Rattle.scalars.specs.Inner.{Shaped, Fitting}
use Rattle.encode.specs.Promise.{EncodePromise}

-- The house order of d scalars is an arrangement.
pub house_arranged : (d l : ℕ) (scalars E : List ℕ) → E ≡ house_order d (numbers_of d (scalar_words l) scalars) → Arrangement d E
house_arranged d l scalars E e = rw e (house_arrangement d _ (length-numbers_of d (scalar_words l) scalars))

module _ (d l : ℕ) (scalars start bits : List ℕ) (judged : 0 ≡ encode_refusal d l scalars start bits) where
  -- Where nothing is refused, the input is what encode asks ..
  asked : EncodeOk d l scalars start bits
  asked = (encode_none d l scalars start bits).0 (sym judged)

  -- .. the scalars are what the core reads ..
  pub shaped : Shaped d l scalars
  unfolding scalars_length
  shaped = record {
    range = record {
      d_low = asked.dimension.0;
      d_high = asked.dimension.1;
      l_low = asked.steps.0;
      l_high = asked.steps.1;
    };
    long = asked.scalars_long;
  }

  pub fitting : Fitting d l scalars
  unfolding scalars_in
  fitting = record { shaped = shaped; below = asked.fit }

  -- .. the outputs have room for what it writes ..
  pub start_long : length start ≡ d
  unfolding start_length
  start_long = asked.start_long

  pub bits_long : length bits ≡ bits_length d l
  bits_long = asked.bits_long

  -- .. and at most d of the d scalars are odd.
  pub few_odd : (odd : ℕ) → odd ≡ odds (numbers_of d (scalar_words l) scalars) → odd ≤ 8
  few_odd odd e = omega (arith, odds_le (numbers_of d (scalar_words l) scalars), length-numbers_of d (scalar_words l) scalars, asked.dimension.1)

module _ (d l : ℕ) (scalars start bits : List ℕ) where
  -- On refusal: row 0, and both outputs as they came.
  pub kept_refused : (e : Refusal) → number e ≡ encode_refusal d l scalars start bits
      → EncodePromise d l scalars start bits (number e) 0 start bits
  kept_refused e judged = record {
    refusal_is = judged;
    row_is = refused e _ _;
    start_is = refused e _ _;
    bits_are = refused e _ _;
  }

  -- Else what was worked out, E being the house order, is the plan of the scalars.
  pub kept_accepted : 0 ≡ encode_refusal d l scalars start bits → (E startAfter bitsAfter : List ℕ) (odd : ℕ)
      → E ≡ house_order d (numbers_of d (scalar_words l) scalars)
      → startAfter ≡ map suc (encoded_start l (numbers_of d (scalar_words l) scalars) E)
      → bitsAfter ≡ pack_bits (joined l (encoded_bits l (numbers_of d (scalar_words l) scalars) E))
      → odd ≡ odds (numbers_of d (scalar_words l) scalars)
      → EncodePromise d l scalars start bits 0 (odd + 1) startAfter bitsAfter
  unfolding encode encode_with scalars_in
  kept_accepted judged E startAfter bitsAfter odd house s b o = record {
    refusal_is = judged;
    row_is = add-one odd ∙ ap suc o ∙ accepted _ _;
    start_is = s ∙ rw house (accepted start (encode d l (scalars_in d l scalars)).start);
    bits_are = b ∙ rw house (accepted bits (encode d l (scalars_in d l scalars)).bits);
  }

-- What encode asks of these laws.
pub ruleset keeping = (kept_refused, kept_accepted, shaped, fitting, start_long, bits_long, few_odd)
