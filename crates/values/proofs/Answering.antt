-- From the plan's end order and the lower numbers in words to the entries of the answer row.
-- Assumes nothing.
use Rattle.std.proofs.Common.{◌≡◌, ℕ, zero, suc, pred, ◌+◌, ◌-◌, ◌*◌, ◌%◌, ◌^◌, ◌<◌, ◌≤◌, List, [], ◌∷◌, map, length, get_or, take, drop, pos, sym, refl, ap, ◌∙◌, subst, ap₂, pow-suc, arith, sub-one, take-append-drop, get_or-take, take-take}
use native.Mathlib.Nat.{mod-add-mod}
use native.Mathlib.Decide.{dec_le}
use lib.ListN.{get_or-eq_default}
use Rattle.ladder.specs.Lists.{tabulate, count}
use Rattle.ladder.specs.Matrix.{Arrangement, signs_after}
use Rattle.ladder.specs.Numbers.{numbers_of, words_of_all, value_words}
use Rattle.ladder.specs.Plan.{Plan, start_order, step_bits, end_order, answer_row, values_in}
use Rattle.ladder.specs.Refusals.{decode_refusal}
use Rattle.ladder.specs.Inner.Decoding.{walked, walked_entry}
use Rattle.ladder.proofs.Decoding.{answer_by_walk}
use Rattle.ladder.proofs.Demand2.{answer_wide}
use Rattle.ladder.proofs.Lists.{get_or-map, length-tabulate, get_or-tabulate, tabulate-same, tabulate-get_or, count-append}
use Rattle.ladder.proofs.Numbers.{numbers_of-words_of_all, value_fits, length-words_of_all}
use Rattle.ladder.proofs.Operations.{decode_none}
use Rattle.ladder.proofs.Refusals.{Accepted}
use Rattle.ladder.proofs.Tests.{count-suc}
use Rattle.bits.specs.Ready.{Columns}
use Rattle.values.specs.Inner.{Lowered, Raisable, raised}
use Rattle.values.proofs.Words.{digit_small}

-- ---- the number that a walk yields

-- The number of n digits is below 2^n.
walked_below : (d : ℕ) (S : List ℕ) (f : ℕ → List ℕ) (n j : ℕ) → walked d S f n j < 2 ^ n
unfolding walked
walked_below d S f zero j = omega arith
walked_below d S f (suc n) j =
    omega (arith, walked_below d S f n j, digit_small (get_or (signs_after d S f (suc n)) j (pos 0)), pow-suc 2 n)

-- ---- columns above a row

-- The first d places of an order hold columns 1 to d.
places_inside : (d : ℕ) (order : List ℕ) → d ≤ 8 → Columns d order → (i : ℕ) → i < d → (1 ≤ get_or order i 0) × (get_or order i 0 ≤ 8)
places_inside d order h c i b =
    let T = map pred (take d order) in
    let e : get_or order i 0 ≡ suc (get_or T i 0) =
    sym (get_or-take d order i 0 b) ∙ ap (λ l. get_or l i 0) c.counted
    ∙ get_or-map suc T i 0 0 (omega (arith, c.columns.long)) in
    (omega arith, omega (arith, c.columns.inside i b))

-- A column is counted as often among the first places from 1 as from 0.
counted_above : (d : ℕ) (order : List ℕ) → Columns d order → (row j : ℕ) → row ≤ d
    → count (suc j) (take row order) ≡ count j (take row (map pred (take d order)))
counted_above d order c row j h =
    ap (count (suc j))
    (sym (take-take row d order h) ∙ ap (take row) c.counted ∙ take-map row (map pred (take d order)))
    ∙ count-suc j (take row (map pred (take d order)))
  where
    take-map : (n : ℕ) (l : List ℕ) → take n (map suc l) ≡ map suc (take n l)
    take-map zero l = refl
    take-map (suc n) [] = refl
    take-map (suc n) (a ∷ l) = ap (λ r. suc a ∷ r) (take-map n l)

counted_few : (d : ℕ) (S : List ℕ) → Arrangement d S → (row j : ℕ) → j < d → count j (take row S) ≤ 1
counted_few d S a row j h =
    omega (arith, a.once j h, ap (count j) (take-append-drop row S), count-append j (take row S) (drop row S))

-- ---- the entries

module _ {p : Plan} {order values : List ℕ} (done : Lowered p order values) (ok : Accepted p) (row : ℕ) (inside : row ≤ p.d) (above : List ℕ)
    (counts : (j : ℕ) → j < 8 → get_or above j 0 ≡ count (suc j) (take row order)) where
  abbrev N : ℕ → ℕ
  N = walked p.d (start_order p) (step_bits p) p.l

  above_is : (j : ℕ) → j < p.d → get_or above j 0 ≡ count j (take row (end_order p))
  above_is j h =
      counts j (omega (arith, ok.d_high)) ∙ counted_above p.d order done.columns row j inside
      ∙ ap (λ S. count j (take row S)) done.last

  number_at : (j : ℕ) → get_or (tabulate p.d N) j 0 ≤ 2 ^ p.l
  number_at j = go (dec_le (suc j) p.d)
    where
      go : Dec (j < p.d) → get_or (tabulate p.d N) j 0 ≤ 2 ^ p.l
      go (yes h) =
          omega (arith, get_or-tabulate p.d N j 0 h, walked_below p.d (start_order p) (step_bits p) p.l j)
      go (no h) = omega (arith, get_or-eq_default (tabulate p.d N) 0 {n = j} (omega (arith, length-tabulate p.d N)))

  numbers : numbers_of p.d (value_words p.l) values ≡ tabulate p.d N
  numbers =
      ap (numbers_of p.d (value_words p.l)) done.lower
      ∙ ap (λ n. numbers_of n (value_words p.l) (words_of_all (value_words p.l) (tabulate p.d N))) (sym (length-tabulate p.d N))
      ∙ numbers_of-words_of_all (value_words p.l) (tabulate p.d N) (λ j. value_fits p.l (get_or (tabulate p.d N) j 0) (number_at j))

  number_is : (j : ℕ) → j < p.d → get_or (numbers_of p.d (value_words p.l) values) j 0 ≡ N j
  number_is j h = ap (λ ns. get_or ns j 0) numbers ∙ get_or-tabulate p.d N j 0 h

  raisable : Raisable p.d (value_words p.l) above values
  unfolding value_words
  raisable = record {
    d_high = ok.d_high;
    k_low = omega arith;
    k_high = omega (arith, ok.l_high);
    long = ap length done.lower ∙ length-words_of_all (value_words p.l) (tabulate p.d N) ∙ ap (λ n. n * value_words p.l) (length-tabulate p.d N);
    few = λ j h.
        subst (λ n. n ≤ 1) (sym (counts j (omega (arith, ok.d_high)) ∙ counted_above p.d order done.columns row j inside))
        (counted_few p.d (map pred (take p.d order)) done.columns.columns row j h);
    room = λ j h.
        subst (λ n. n + 1 < 2 ^ (64 * value_words p.l)) (sym (number_is j h))
        (value_fits p.l (N j + 1) (omega (arith, walked_below p.d (start_order p) (step_bits p) p.l j)));
  }

  raised_row : row ≡ pred p.answer → raised p.d (value_words p.l) above values ≡ answer_row p
  unfolding raised walked_entry
  raised_row own =
      tabulate-same p.d
      (λ j. get_or (numbers_of p.d (value_words p.l) values) j 0 + (get_or (numbers_of p.d (value_words p.l) values) j 0 % 2 + get_or above j 0) % 2)
      (λ j. get_or (answer_row p) j 0)
      (λ j h.
      ap₂ (λ a b. a + b) (number_is j h)
      (ap₂ (λ a b. (a % 2 + b) % 2) (number_is j h) (above_is j h ∙ ap (λ n. count j (take n (end_order p))) own)
      ∙ mod-add-mod (N j) 2 (count j (take (pred p.answer) (end_order p))))
      ∙ sym (answer_by_walk p ok j h))
      ∙ ap (λ n. tabulate n (λ j. get_or (answer_row p) j 0)) (sym (answer_wide p ok))
      ∙ tabulate-get_or (answer_row p) 0

-- ---- a plan and a buffer that decode does not refuse

module _ (p : Plan) (values : List ℕ) (judged : decode_refusal p values ≡ 0) where
  fine : Accepted p
  fine = ((decode_none p values).0 judged).plan.plan

  pub answer_in : (1 ≤ p.answer) × (p.answer - 1 ≤ p.d)
  answer_in = (fine.answer_low, omega (arith, fine.answer_high))

  module _ {order lower : List ℕ} (done : Lowered p order lower) {row : ℕ} (inside : row ≤ p.d) where
    -- The places above a row hold columns ..
    pub places : (row ≤ 8) × ((i : ℕ) → i < row → (1 ≤ get_or order i 0) × (get_or order i 0 ≤ 8))
    places = (omega (arith, fine.d_high), λ i h. places_inside p.d order fine.d_high done.columns i (omega arith))

    -- .. by their count the lower numbers, k words each, can be raised, and are the answer row then, where the row is its own.
    module _ (above : List ℕ) (counts : (j : ℕ) → j < 8 → get_or above j 0 ≡ count (suc j) (take row order))
        {k : ℕ} (words : k ≡ value_words p.l) where
      pub raises : Raisable p.d k above lower
      raises = subst (λ n. Raisable p.d n above lower) (sym words) (raisable done fine row inside above counts)

      pub decodes : row ≡ p.answer - 1 → words_of_all k (raised p.d k above lower) ≡ values_in p
      unfolding values_in
      decodes own = rw words (ap (words_of_all (value_words p.l)) (raised_row done fine row inside above counts (own ∙ sub-one p.answer)))
