-- The values of a plan that is not refused, decoded into words: the loop over their chunks goes through the answer row.
-- Assumes nothing.
use Prim.Native.Nat.{ℕ, ◌*◌, ◌≤◌, ◌<◌}
use mathlib.Core.Path.{◌≡◌, sym, ap, ap₂, subst, ◌∙◌}
use mathlib.Core.List.{List}
use native.Mathlib.Omega.{arith}
use lib.ListN.{length, get_or, drop, length-drop}
use lib.Seq.{length-take-le}
use Rattle.std.specs.declared.slice.ChunksExact.{ChunksExact}
use Rattle.std.proofs.Common.{Option, None, Some}
use Rattle.std.specs.Iterator.{Yields}
use Rattle.std.specs.Slice.Iter.{chunks_exact_rest, chunks_exact_size, chunks_exact_steps}
use Rattle.std.proofs.lemmas.Iterator.{YieldsList}
use Rattle.std.proofs.lemmas.Iterator.Consumers.{YieldsList-turn, YieldsList-end}
use denote.Ref.{Bor}
use Rattle.ladder.specs.Numbers.{number_of, numbers_of, value_words, values_length}
use Rattle.ladder.specs.Plan.{Plan, values_in, answer_row}
use Rattle.ladder.proofs.Demand2.{decode_words, answer_wide}
use Rattle.ladder.proofs.Lengths.{values_length_lem}
use Rattle.ladder.proofs.Lists.{length-tabulate, get_or-tabulate}
use Rattle.ladder.proofs.Numbers.{own, own_within, number_at}
use Rattle.scalars.proofs.Chunks.{chunks, chunked}
use Rattle.text.specs.Inner.{Listable}
use Rattle.text.proofs.PlanLines.{plan_ok}

-- The words of value j: one at least and ten at the most, which make entry j of the answer row.
pub record ValueAt (p : Plan) (j : ℕ) (value : List ℕ) : Type 0 where
  pub within : j < length (answer_row p)
  pub low : 1 ≤ length value
  pub high : length value ≤ 10
  pub number : get_or (answer_row p) j 0 ≡ number_of value

module _ (p : Plan) (asked : Listable p) (k : ℕ) (words : k ≡ value_words p.l) (values : List ℕ) (decoded : values ≡ values_in p) where
  wide : length (answer_row p) ≡ p.d
  wide = answer_wide p (plan_ok p asked).plan

  pub k_low : 1 ≤ k
  unfolding value_words
  k_low = omega (arith, words)

  k_high : k ≤ 10
  unfolding value_words
  k_high = omega (arith, words, (plan_ok p asked).plan.l_high)

  long : length values ≡ p.d * k
  unfolding values_length
  long = ap length decoded ∙ values_length_lem p (plan_ok p asked).plan ∙ ap (λ n. p.d * n) (sym words)

  value_at : (j : ℕ) → j < p.d → ValueAt p j (own k values j)
  value_at j h =
      let whole : length (own k values j) ≡ k =
      length-take-le k (drop (j * k) values) (omega (arith, length-drop (j * k) values, own_within p.d k (length values) j long h)) in
      record {
        within = omega (arith, wide);
        low = omega (arith, whole, k_low);
        high = omega (arith, whole, k_high);
        number =
            ap (λ row. get_or row j 0)
            (sym (ap₂ (λ n ws. numbers_of p.d n ws) words decoded ∙ decode_words p (plan_ok p asked).plan))
            ∙ number_at p.d k values j h;
      }

  module _ (s : ChunksExact ℕ) (e : chunks_exact_rest s ≡ values) (f : chunks_exact_size s ≡ k)
      (xs : List (Bor (List ℕ))) (t : ChunksExact ℕ) (y : Yields (chunks_exact_steps {A = ℕ}) s xs t)
      (r : Option (Bor (List ℕ))) (u : ChunksExact ℕ) (step : chunks_exact_steps t r u) where
    road : YieldsList (chunks_exact_steps {A = ℕ}) (λ x. x.now) s (chunks p.d k values)
    road = chunked p.d k values e f k_low long

    -- Each chunk is the words of the next value ..
    pub turned : (x : Bor (List ℕ)) → r ≡ Some x → ValueAt p (length xs) x.now
    turned x some =
        let turn = YieldsList-turn road xs t y r u x some step in
        let h : length xs < p.d = omega (arith, turn.0, length-tabulate p.d (own k values)) in
        subst (ValueAt p (length xs)) (sym (turn.1 ∙ get_or-tabulate p.d (own k values) (length xs) x.now h)) (value_at (length xs) h)

    -- .. and after the last come no more.
    pub ended : r ≡ None → length (answer_row p) ≤ length xs
    ended none = omega (arith, (YieldsList-end road xs t y r u none step).1, length-tabulate p.d (own k values), wide)
