-- The lines of a plan that is not refused: they fit one after the other, and its values are the words of its answer row.
-- Assumes nothing.
use Prim.Native.Nat.{ℕ, ◌+◌, ◌*◌, ◌≤◌, ◌<◌}
use mathlib.Core.Path.{◌≡◌}
use mathlib.Core.List.{List}
use native.Mathlib.Nat.{mul-le-mul}
use native.Mathlib.Omega.{arith}
use lib.ListN.{length}
use Rattle.std.proofs.lemmas.Grind.{common_steps}
use Rattle.ladder.specs.Lists.{joined}
use Rattle.ladder.specs.Numbers.{longest_text, value_words, values_length}
use Rattle.ladder.specs.Plan.{Plan}
use Rattle.ladder.specs.Refusals.{decode_refusal}
use Rattle.ladder.specs.Listing.{plan_line, start_line, step_line, value_line, plan_text}
use Rattle.ladder.proofs.Operations.{PlanOk, loose_none, decode_none}
use Rattle.ladder.proofs.Bits.{bits_room}
use Rattle.ladder.proofs.Texts.{plan_text_fits}
use Rattle.text.specs.Inner.{Listable}

module _ (p : Plan) (asked : Listable p) where
  -- A plan that is not refused, with buffers of their lengths.
  pub plan_ok : PlanOk p
  plan_ok = ((loose_none p {others = 0} (λ z. z, λ z. z)).0 asked).0

  -- Its lines have room.
  pub lines_room : length (plan_line p) + (length (start_line p) + (length (joined p.l (step_line p)) + length (value_line p))) ≤ longest_text
  unfolding plan_text
  lines_room = grind (arith, common_steps, plan_text_fits p plan_ok.plan)

  -- Each of its steps lies within its bits.
  pub step_within : (s : ℕ) → s < p.l → (p.d ≤ 8) × ((s < 576) × (s * p.d + p.d ≤ 8 * length p.bits))
  step_within s h =
      let ok = plan_ok in
      (ok.plan.d_high, (omega (arith, ok.plan.l_high), bits_room p.d p.l s _ h ok.bits))

  -- Eighty words have room for its values ..
  pub scratch : (k : ℕ) → k ≡ value_words p.l → p.d * k ≤ 80
  unfolding value_words
  scratch k e =
      let ok = plan_ok.plan in
      let few : k ≤ 10 = omega (arith, ok.l_high) in
      mul-le-mul ok.d_high few

  -- .. so they can be decoded.
  pub decodable : (k : ℕ) (values : List ℕ) → k ≡ value_words p.l → length values ≡ p.d * k → decode_refusal p values ≡ 0
  unfolding values_length
  decodable k values e long = (decode_none p values).1 (record { plan = plan_ok; values_long = rw e at long })

-- With the usual steps on lists that shows that each line has room.
pub ruleset lining = (lines_room, common_steps)
