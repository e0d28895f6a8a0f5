-- Check's promise is kept on refusal and on accepted input.
-- Assumes nothing.
use Rattle.std.proofs.Common.{◌≡◌, ℕ, List, Bool, false, ◌∙◌, Result, Err}
use Rattle.ladder.specs.Plan.{Plan, answer_row}
use Rattle.ladder.specs.Refusals.{check_refusal, scalars_in, same_numbers}
use Rattle.refusal.specs.declared.Refusal.{Refusal}
use Rattle.refusal.specs.Answers.{number, refusal_of, answer_or}
use Rattle.refusal.proofs.Laws.{refused, accepted}
use Rattle.checking.specs.Promise.{CheckPromise}

module _ (p : Plan) (scalars : List ℕ) where
  -- What refuses says no ..
  pub kept_refused : (r : Result Bool Refusal) (e : Refusal) → r ≡ Err e → number e ≡ check_refusal p scalars
      → CheckPromise p scalars (refusal_of r) (answer_or false r)
  kept_refused r e gave judged =
      rw gave (record {
        refusal_is = judged;
        yes_is = refused e _ _;
      })

  -- .. else the answer is whether the answer row is the scalars.
  pub kept_accepted : (said : Bool) → 0 ≡ check_refusal p scalars → said ≡ same_numbers (answer_row p) (scalars_in p.d p.l scalars)
      → CheckPromise p scalars 0 said
  kept_accepted said judged compared = record {
    refusal_is = judged;
    yes_is = compared ∙ accepted _ _;
  }
