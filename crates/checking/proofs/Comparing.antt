-- A plan and scalars that check does not refuse: what comparing the answer row with the scalars asks, and what it says.
-- Assumes nothing.
use Prim.Native.Nat.{ℕ, ◌*◌, ◌<◌, ◌≤◌}
use mathlib.Core.Path.{◌≡◌, sym, ap, ap₂, ◌∙◌}
use mathlib.Core.List.{List}
use native.Mathlib.Nat.{mul-le-mul}
use native.Mathlib.Omega.{arith}
use lib.ListN.{length}
use Rattle.ladder.specs.Numbers.{numbers_of, scalar_words, scalars_length, value_words, values_length}
use Rattle.ladder.specs.Plan.{Plan, answer_row, values_in}
use Rattle.ladder.specs.Refusals.{shape, loose_refusal, decode_refusal, check_refusal, scalars_in, same_numbers}
use Rattle.ladder.proofs.Demand2.{decode_words}
use Rattle.ladder.proofs.Operations.{CheckOk, check_none, decode_none, loose_none}
use Rattle.ladder.proofs.Refusals.{shape_none}
use Rattle.scalars.specs.Inner.{Shaped}
use Rattle.checking.proofs.Left.{Left}

-- An entry has a word, and as many as a scalar.
pub words_some : (l : ℕ) → (0 < value_words l) × (scalar_words l ≤ value_words l)
unfolding value_words scalar_words
words_some l = (omega arith, omega arith)

module _ (p : Plan) (scalars : List ℕ) where
  -- Where the plan is not refused, nor the scalars' length, the scalars can be judged.
  pub shaped : loose_refusal p (shape scalars (scalars_length p.d p.l)) ≡ 0 → Shaped p.d p.l scalars
  unfolding scalars_length
  shaped judged =
      let ok = (loose_none p (shape_none scalars (scalars_length p.d p.l))).0 judged in
      let a = ok.0.plan in
      record { range = record { d_low = a.d_low; d_high = a.d_high; l_low = a.l_low; l_high = a.l_high }; long = ok.1 }

  module _ (judged : check_refusal p scalars ≡ 0) where
    asked : CheckOk p scalars
    asked = (check_none p scalars).0 judged

    pub steps_high : p.l ≤ 576
    steps_high = asked.plan.plan.l_high

    -- A scalar has a word.
    pub scalar_some : 0 < scalar_words p.l
    unfolding scalar_words
    scalar_some = omega (arith, asked.plan.plan.l_low)

    -- Eight values of ten words are enough.
    pub scratch_room : p.d * value_words p.l ≤ 80
    unfolding value_words
    scratch_room =
        let k : value_words p.l ≤ 10 = omega (arith, steps_high) in
        mul-le-mul asked.plan.plan.d_high k

    module _ (values : List ℕ) (long : length values ≡ p.d * value_words p.l) where
      -- Words for d values can be decoded into ..
      pub decodable : decode_refusal p values ≡ 0
      unfolding values_length
      decodable = (decode_none p values).1 (record { plan = asked.plan; values_long = long })

      -- .. and then all entries and scalars are left, and decide.
      pub left_starts : values ≡ values_in p → {entries_left scalars_left : List ℕ} → entries_left ≡ values → scalars_left ≡ scalars
          → Left (same_numbers (answer_row p) (scalars_in p.d p.l scalars)) (value_words p.l) (scalar_words p.l) entries_left scalars_left
      unfolding scalars_in scalars_length
      left_starts decoded e f = record {
        count = p.d;
        values_long = ap length e ∙ long;
        scalars_long = ap length f ∙ asked.scalars_long;
        decides =
            ap₂ (λ v s. same_numbers v (numbers_of p.d (scalar_words p.l) s))
            (sym (ap (numbers_of p.d (value_words p.l)) (e ∙ decoded) ∙ decode_words p asked.plan.plan)) (sym f);
      }
