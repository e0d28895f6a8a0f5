-- Decode's promise is kept on refusal and on accepted input.
-- Assumes nothing.
use Rattle.std.proofs.Common.{◌≡◌, ℕ, List, ◌∙◌}
use Rattle.ladder.specs.Plan.{Plan, values_in}
use Rattle.ladder.specs.Refusals.{decode_refusal}
use Rattle.refusal.specs.declared.Refusal.{Refusal}
use Rattle.refusal.specs.Answers.{number}
use Rattle.refusal.proofs.Laws.{refused, accepted}
use Rattle.decode.specs.Promise.{DecodePromise}

module _ (p : Plan) (values : List ℕ) where
  -- What refuses leaves the values as they came ..
  pub kept_refused : (e : Refusal) → number e ≡ decode_refusal p values → DecodePromise p values (number e) values
  kept_refused e judged = record {
    refusal_is = judged;
    values_are = refused e _ _;
  }

  -- .. else they are the words of the answer row.
  pub kept_accepted : (valuesAfter : List ℕ) → 0 ≡ decode_refusal p values → valuesAfter ≡ values_in p → DecodePromise p values 0 valuesAfter
  kept_accepted valuesAfter judged decoded = record {
    refusal_is = judged;
    values_are = decoded ∙ accepted _ _;
  }
