-- The listing's promise is kept on refusal and on an accepted file.
-- Assumes nothing.
use Rattle.std.proofs.Common.{◌≡◌, ◌+◌, ℕ, List, [], ◌++◌, length, drop, refl, ap, ◌∙◌, ◌≤◌, arith}
use Rattle.ladder.specs.PlanFile.{plan_in}
use Rattle.ladder.specs.Listing.{plan_text}
use Rattle.ladder.specs.Plan.{Plan}
use Rattle.ladder.specs.Numbers.{longest_text}
use Rattle.ladder.specs.Refusals.{plan_shape, plan_refusal, loose_refusal, listing_refusal}
use Rattle.ladder.proofs.Tests.{none_then}
use Rattle.ladder.proofs.Refusals.{accept}
use Rattle.ladder.proofs.Operations.{ListingOk}
use Rattle.ladder.proofs.AcceptedFiles.{held_shape}
use Rattle.ladder.proofs.Texts.{plan_text_fits}
use Rattle.refusal.specs.declared.Refusal.{Refusal}
use Rattle.refusal.specs.Answers.{number}
use Rattle.refusal.proofs.Laws.{refused, accepted}
use Rattle.listing.specs.Promise.{ListingPromise}

module _ (file text : List ℕ) where
  -- What refuses leaves the buffer as it came ..
  pub kept_refused : (e : Refusal) → number e ≡ listing_refusal file text → ListingPromise file text (number e) 0 text
  kept_refused e judged = record {
    refusal_is = judged;
    length_is = refused e _ _;
    text_is = refused e _ _;
  }

  -- .. else the plan's lines stand at its start.
  pub kept_accepted : (lines : List ℕ) → 0 ≡ listing_refusal file text → lines ≡ plan_text (plan_in file)
      → ListingPromise file text 0 (length lines) (lines ++ drop (length lines) text)
  kept_accepted lines judged e = record {
    refusal_is = judged;
    length_is = ap length e ∙ accepted _ _;
    text_is = ap (λ s. s ++ drop (length s) text) e ∙ accepted _ _;
  }

  -- The plan that an accepted file holds is not refused ..
  pub listable : ListingOk file text → {p : Plan} → p ≡ plan_in file → loose_refusal p 0 ≡ 0
  unfolding loose_refusal
  listable ok e =
      rw e
      (ap (plan_refusal (plan_in file)) (none_then (plan_shape (plan_in file)) 0 (held_shape file ok.unpack) refl) ∙ accept (plan_in file) ok.unpack.plan)

  -- .. and its lines have room where there are none yet ..
  pub lines_room : ListingOk file text → {p : Plan} → p ≡ plan_in file → (start : List ℕ) → start ≡ [] → length start + length (plan_text p) ≤ longest_text
  lines_room ok e start none = omega (arith, ap length none, ap (λ p. length (plan_text p)) e, plan_text_fits (plan_in file) ok.unpack.plan)

  -- .. and fit the buffer.
  pub lines_fit : ListingOk file text → (lines : List ℕ) → lines ≡ plan_text (plan_in file) → length lines ≤ length text
  unfolding longest_text
  lines_fit ok lines e = omega (arith, ap length e, plan_text_fits (plan_in file) ok.unpack.plan, ok.text_long)
