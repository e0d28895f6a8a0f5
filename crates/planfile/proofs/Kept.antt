-- The promises of pack, unpack and body are kept on refusal and on accepted input.
-- Assumes nothing.
use Rattle.std.proofs.Common.{◌≡◌, ℕ, ◌+◌, List, [], refl, sym, ap, ◌∙◌}
use native.Mathlib.Nat.{add-zero}
use Rattle.ladder.specs.Plan.{Plan}
use Rattle.ladder.specs.PlanFile.{file_of, body_place, body_in}
use Rattle.ladder.specs.Refusals.{refusing, pack_refusal, unpack_refusal}
use Rattle.refusal.specs.declared.Refusal.{Refusal}
use Rattle.refusal.specs.Answers.{number}
use Rattle.refusal.proofs.Laws.{refused, accepted}
use Rattle.planfile.specs.declared.unpacking.Unpacked.{Unpacked}
use Rattle.planfile.specs.Inner.{TrailerSays, BodyCut}
use Rattle.planfile.specs.Promise.{PackPromise, UnpackPromise, BodyPromise, no_numbers}

module _ (p : Plan) (file : List ℕ) where
  -- What refuses leaves the file as it came ..
  pub pack_refused : (e : Refusal) → number e ≡ pack_refusal p file → PackPromise p file (number e) file
  pack_refused e judged = record { refusal_is = judged; file_is = refused e _ _ }

  -- .. else it is the plan's.
  pub pack_accepted : (fileAfter : List ℕ) → 0 ≡ pack_refusal p file → fileAfter ≡ file_of p → PackPromise p file 0 fileAfter
  pack_accepted fileAfter judged packed = record { refusal_is = judged; file_is = packed ∙ accepted _ _ }

module _ (file : List ℕ) where
  -- What is refused has no numbers ..
  pub unpack_refused : (e : Refusal) → number e ≡ unpack_refusal file → UnpackPromise file (number e) no_numbers
  unpack_refused e judged = record {
    refusal_is = judged;
    d_is = refused e _ _;
    l_is = refused e _ _;
    row_is = refused e _ _;
  }

  -- .. else they are the trailer's.
  pub unpack_accepted : (u : Unpacked) (distance : ℕ) → 0 ≡ unpack_refusal file
      → TrailerSays file u.d u.l u.row distance → UnpackPromise file 0 u
  unpack_accepted u distance judged read = record {
    refusal_is = judged;
    d_is = read.d_is ∙ accepted _ _;
    l_is = read.l_is ∙ accepted _ _;
    row_is = read.row_is ∙ accepted _ _;
  }

module _ {file : List ℕ} {place : ℕ × ℕ} where
  -- The body of what is refused is empty ..
  pub body_refused : (e : Refusal) → number e ≡ unpack_refusal file → BodyPromise file place [] place
  body_refused e judged = record {
    block_is = refl;
    offset_is = sym (add-zero place.1) ∙ ap (λ n. place.1 + n) (refused e _ _ ∙ ap (λ n. refusing n 0 (body_place file)) judged);
    bytes_are = refused e _ _ ∙ ap (λ n. refusing n [] (body_in file)) judged;
  }

  -- .. else it is cut out of the file.
  pub body_accepted : {part : List ℕ} {partPlace : ℕ × ℕ} → 0 ≡ unpack_refusal file → BodyCut file place part partPlace
      → BodyPromise file place part partPlace
  body_accepted judged cut = record {
    block_is = cut.block_is;
    offset_is = cut.offset_is ∙ ap (λ n. place.1 + n) (accepted _ _ ∙ ap (λ n. refusing n 0 (body_place file)) judged);
    bytes_are = cut.bytes_are ∙ accepted _ _ ∙ ap (λ n. refusing n [] (body_in file)) judged;
  }
