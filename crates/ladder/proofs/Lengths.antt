-- What is written has its length: decoded values, an encoded plan's buffers, a plan file.
-- Assumes nothing.
use Prim.Native.Nat.{ℕ, suc, pred, ◌*◌, ◌≤◌}
use mathlib.Core.Path.{◌≡◌, refl, sym, ap, ◌∙◌}
use mathlib.Core.List.{List}
use native.Mathlib.Omega.{arith}
use lib.ListN.{length, length-append, length-map}
use Rattle.ladder.specs.Lists.{joined}
use Rattle.ladder.specs.Numbers.{bytes_for, pack_bits, bits_length, start_length, value_words, values_length}
use Rattle.ladder.specs.Matrix.{Arrangement}
use Rattle.ladder.specs.Plan.{Plan, start_order, step_bits, answer_row, values_in}
use Rattle.ladder.specs.Encoding.{encoded_start, encoded_bits, encode_with}
use Rattle.ladder.specs.PlanFile.{mark, trailer_size, body_length, file_length, two_bytes, four_bytes, file_of}
use Rattle.ladder.specs.Refusals.{plan_refusal, plan_shape, loose_refusal}
use Rattle.ladder.proofs.Lists.{length-joined}
use Rattle.ladder.proofs.Numbers.{length-words_of_all}
use Rattle.ladder.proofs.Bits.{length-pack_bits, length-step_bits}
use Rattle.ladder.proofs.Encoding.{start_arranged, length-encoded_bits}
use Rattle.ladder.proofs.Tests.{none_then}
use Rattle.ladder.proofs.Refusals.{Accepted, shape_none, accept}
use Rattle.ladder.proofs.Demand2.{answer_wide, encoded_accepted}

-- Decoding writes d values.
pub values_length_lem : (p : Plan) → Accepted p → length (values_in p) ≡ values_length p.d p.l
unfolding values_in values_length
values_length_lem p ok =
    length-words_of_all (value_words p.l) (answer_row p) ∙ ap (λ n. n * value_words p.l) (answer_wide p ok)

-- l steps of d bits are packed into the bytes of a plan's bits.
pub packed_length : (d l : ℕ) (f : ℕ → List ℕ) → ((s : ℕ) → length (f s) ≡ d) → length (pack_bits (joined l f)) ≡ bits_length d l
unfolding bits_length
packed_length d l f e = length-pack_bits (joined l f) ∙ ap bytes_for (length-joined d l f (λ s h. e s))

module _ {d : ℕ} (l : ℕ) (ks : List ℕ) {E : List ℕ} (a : Arrangement d E) where
  -- An encoded plan's start order and bits have their lengths ..
  pub encoded-shape : plan_shape (encode_with d l ks E) ≡ 0
  unfolding plan_shape encode_with start_length
  encoded-shape =
      none_then _ _
      ((shape_none _ _).1 (length-map (encoded_start l ks E) suc ∙ (start_arranged l ks a).long))
      ((shape_none _ _).1 (packed_length d l (encoded_bits l ks E) (length-encoded_bits l ks a)))

  -- .. so no call refuses it.
  pub encoded_not_refused : length ks ≡ d → 1 ≤ d → d ≤ 8 → 1 ≤ l → l ≤ 576 → loose_refusal (encode_with d l ks E) 0 ≡ 0
  unfolding loose_refusal
  encoded_not_refused wide h₁ h₂ h₃ h₄ =
      ap (plan_refusal (encode_with d l ks E)) (none_then _ _ encoded-shape refl)
      ∙ accept (encode_with d l ks E) (encoded_accepted l ks a wide h₁ h₂ h₃ h₄)

-- An accepted plan's start order has d places.
pub start_long_lem : (p : Plan) → Accepted p → length p.start ≡ p.d
unfolding start_order
start_long_lem p ok = sym (length-map p.start pred) ∙ ok.start.long

-- A plan's file has its length.
pub file_length_lem : (p : Plan) → length p.start ≡ p.d → length (file_of p) ≡ file_length p.d p.l
unfolding file_of file_length body_length trailer_size two_bytes four_bytes mark
file_length_lem p e = simp length-append (omega (arith, packed_length p.d p.l (step_bits p) (length-step_bits p)))
