-- The walk through a plan, under way: the order after s steps, and each column's lower number partly in words.
-- Assumes nothing.
use Rattle.std.proofs.Common.{◌≡◌, ℕ, suc, pred, ◌+◌, ◌-◌, ◌*◌, ◌/◌, ◌%◌, ◌^◌, ◌<◌, ◌≤◌, List, ◌++◌, map, length, get_or, take, replicate, pos, sym, refl, ap, ◌∙◌, subst, add-one, arith}
use native.Mathlib.Nat.{zero-mod, zero-div}
use lib.ListN.{length-replicate}
use Rattle.ladder.specs.Lists.{tabulate}
use Rattle.ladder.specs.Matrix.{Arrangement, OrderOk, step_order, start_signs, order_after, signs_after}
use Rattle.ladder.specs.Numbers.{value_words, values_length, words_of_all}
use Rattle.ladder.specs.Plan.{Plan, start_order, step_bits, order_in, end_order}
use Rattle.ladder.specs.Refusals.{decode_refusal}
use Rattle.ladder.specs.Walk.{Walk, walk_of, bits_of, order_of}
use Rattle.ladder.specs.Inner.Decoding.{digit, walked}
use Rattle.ladder.proofs.Bits.{length-step_bits, step_bits_below, bits_room}
use Rattle.ladder.proofs.Lists.{get_or_zeros}
use Rattle.ladder.proofs.Operations.{PlanOk, DecodeOk, decode_none}
use Rattle.ladder.proofs.Walk.{length-bits_of, order_of_walk}
use Rattle.bits.specs.Ready.{Columns}
use Rattle.bits.specs.ReadBits.{ReadBits}
use Rattle.bits.proofs.PlanWalk.{ready_start}
use Rattle.bits.proofs.Stepping.{columns_after, columns_step}
use Rattle.judge.proofs.Starting.{start_of, can_start}
use Rattle.values.specs.Inner.{stored, stored_then, Pushed, Lowered}
use Rattle.values.proofs.Words.{length-stored, digit_small}
use Rattle.values.proofs.Pushing.{pushed_signs}
use Rattle.values.proofs.Partly.{Partly, stored_at, partly_next, partly_ends}

pub record Lowering (p : Plan) (order held values : List ℕ) (s : ℕ) : Type 0 where
  pub ok : PlanOk p
  pub many : length held ≡ p.d
  pub columns : Columns p.d order
  pub places : map pred (take p.d order) ≡ order_in p s
  pub words : Partly p.d (value_words p.l) (p.l - s) (walked p.d (start_order p) (step_bits p) s) held values

-- ---- before the first step

-- A plan and a buffer that decode does not refuse can be walked.
module _ (p : Plan) (values : List ℕ) (judged : decode_refusal p values ≡ 0) where
  asked : DecodeOk p values
  asked = (decode_none p values).0 judged

  pub columns_few : p.d ≤ 8
  columns_few = asked.plan.plan.d_high

  pub words_long : length values ≡ p.d * value_words p.l
  unfolding values_length
  words_long = asked.values_long

  pub begins : (p.d ≤ 8) × OrderOk p.d p.start
  begins = can_start p asked.plan.plan

  pub lowering_starts : {w : Walk} → w ≡ start_of p
      → Lowering p w.order (replicate p.d 0) (stored p.d (value_words p.l) (p.l / 64) (replicate p.d 0) values) 0
  unfolding order_in order_after order_of walked value_words walk_of start_order
  lowering_starts begun = record {
    ok = asked.plan;
    many = length-replicate p.d 0;
    columns = subst (λ v. Columns p.d v.order) (sym begun) (ready_start p asked.plan.plan).order;
    places = ap (λ v. map pred (take p.d v.order)) begun ∙ order_of_walk p.d (start_order p) (start_signs p.d) asked.plan.plan.start.long;
    words = record {
      long = length-stored p.d (value_words p.l) (p.l / 64) zeros values ∙ words_long;
      low = λ j h. get_or_zeros p.d j ∙ sym (zero-mod (2 ^ 64));
      high = λ j v h b q.
          let e : v ≡ p.l / 64 = omega arith in
          ap (λ u. get_or (stored p.d (p.l / 64 + 1) (p.l / 64) zeros values) (j * (p.l / 64 + 1) + u) 0) e
          ∙ stored_at p.d (p.l / 64 + 1) (p.l / 64) zeros values j (omega arith) (omega (arith, words_long)) h
          ∙ get_or_zeros p.d j
          ∙ sym (ap (λ n. n % 2 ^ 64) (zero-div (2 ^ (64 * v - (p.l - 0)))));
    };
  }
    where
      zeros : List ℕ
      zeros = replicate p.d 0

-- ---- a step

module _ {p : Plan} {order held values : List ℕ} {s : ℕ} (now : Lowering p order held values s) (h : s < p.l) where
  -- What reading the bits of the next step asks.
  pub lowering_reads : (p.d ≤ 8) × ((s < 576) × (s * p.d + p.d ≤ 8 * length p.bits))
  lowering_reads = (now.ok.plan.d_high, (omega (arith, now.ok.plan.l_high), bits_room p.d p.l s _ h now.ok.bits))

  module _ (r : ℕ) (read : ReadBits p.d s p.bits r)
      (next : List ℕ) (e : next ≡ step_order (take p.d order) (bits_of p.d r) ++ replicate (8 - p.d) 0)
      (more : List ℕ)
      (pushed : Pushed p.d (step_order (map pred (take p.d order)) (bits_of p.d r)) (bits_of p.d r) held more) where
    abbrev d : ℕ
    d = p.d

    columns_next : Columns d next
    columns_next = subst (Columns d) (sym e) (columns_step now.columns (bits_of d r) (length-bits_of d r) (replicate (8 - d) 0))

    -- The order after one step more ..
    new_order : step_order (map pred (take d order)) (bits_of d r) ≡ order_in p (suc s)
    unfolding order_in order_after
    new_order = rw (now.places, read.bits)

    places_next : map pred (take d next) ≡ order_in p (suc s)
    places_next =
        ap (λ o. map pred (take d o)) e
        ∙ columns_after now.columns (bits_of d r) (length-bits_of d r) (replicate (8 - d) 0)
        ∙ new_order

    -- .. and each column's digits.
    low_next : (j : ℕ) → j < d → get_or more j 0 ≡ walked d (start_order p) (step_bits p) (suc s) j % 2 ^ 64
    unfolding order_in
    low_next =
        pushed_signs d (start_order p) (step_bits p) s (length-step_bits p) (step_bits_below p)
        (subst (Arrangement d) places_next columns_next.columns) held more
        now.words.low
        (subst (λ T. Pushed d T (step_bits p s) held more) new_order
        (subst (λ b. Pushed d (step_order (map pred (take d order)) (bits_of d r)) b held more) read.bits pushed))

    words_next : Partly d (value_words p.l) (p.l - 1 - s) (walked d (start_order p) (step_bits p) (suc s)) more
        (stored_then d (value_words p.l) (p.l - 1 - s) more values)
    unfolding walked value_words
    words_next =
        let t : ℕ → ℕ = λ j. digit (get_or (signs_after d (start_order p) (step_bits p) (suc s)) j (pos 0)) in
        let one : p.l - s ≡ p.l - 1 - s + 1 = omega arith in
        partly_next (p.l - 1 - s)
        (subst (λ i. Partly d (p.l / 64 + 1) i (walked d (start_order p) (step_bits p) s) held values) one now.words)
        (walked d (start_order p) (step_bits p) (suc s)) t (λ j b. refl)
        (λ j b. omega (arith, digit_small (get_or (signs_after d (start_order p) (step_bits p) (suc s)) j (pos 0))))
        more low_next (omega arith)

    -- What storing the words that are full asks.
    pub lowering_stores : ((p.l - 1 - s) / 64 < value_words p.l) × (length values ≡ length more * value_words p.l)
    unfolding value_words
    lowering_stores = (omega arith, now.words.long ∙ ap (λ n. n * (p.l / 64 + 1)) (sym pushed.long))

    -- After one step more.
    pub lowering_next : Lowering p next more (stored_then (length more) (value_words p.l) (p.l - 1 - s) more values) (s + 1)
    lowering_next =
        let here : p.l - 1 - s ≡ p.l - suc s = omega arith in
        let after = stored_then d (value_words p.l) (p.l - 1 - s) more values in
        rw (pushed.long, add-one)
        (record {
          ok = now.ok;
          many = pushed.long;
          columns = columns_next;
          places = places_next;
          words = subst (λ i. Partly d (value_words p.l) i (walked d (start_order p) (step_bits p) (suc s)) more after) here words_next;
        })

-- ---- after the last step

-- A value has a word.
words_some : (l : ℕ) → 0 < value_words l
unfolding value_words
words_some l = omega arith

pub lowering_ends : {p : Plan} {order held values : List ℕ} {s : ℕ} → Lowering p order held values s → s ≡ p.l → Lowered p order values
unfolding end_order
lowering_ends {p} {order} {held} {values} {s} now h =
    let z : p.l - s ≡ 0 = omega arith in
    record {
      columns = now.columns;
      last = now.places ∙ ap (order_in p) h;
      lower =
          partly_ends p.d (value_words p.l) (walked p.d (start_order p) (step_bits p) s) held values (words_some p.l)
          (subst (λ i. Partly p.d (value_words p.l) i (walked p.d (start_order p) (step_bits p) s) held values) z now.words)
          ∙ ap (λ n. words_of_all (value_words p.l) (tabulate p.d (walked p.d (start_order p) (step_bits p) n))) h;
    }
