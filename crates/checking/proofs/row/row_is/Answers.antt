-- `row_is` meets its contract: the entries and scalars that are left decide whether all are the same.
-- Assumes nothing.
use Rattle.std.proofs.Common.{◌≡◌, sym, ap, ◌∙◌, arith, ⊎_elim, ◌*◌, ◌≤◌, length-take-le}
use Rattle.std.specs.Iterator.Adapters.{zip_first, zip_second}
use Rattle.std.specs.Slice.Iter.{chunks_exact_rest, chunks_exact_size}
use Rattle.ladder.specs.Numbers.{value_words, scalar_words}
use Rattle.loose.specs.PlanOf.{plan_of}
use Rattle.checking.proofs.Comparing.{left_starts, decodable, words_some, scalar_some, steps_high, scratch_room}
use Rattle.checking.proofs.Left.{left_next, left_differs, left_ends, left_none}
use Rattle.checking.proofs.row.row_is.Goals.{After-value_words-k, After-into_iter-entry-iterator}
use Rattle.checking.proofs.row.row_is.Goals as goal

-- The scratch has room for d values of as many words as each has.
room : (c : After-value_words-k) → c.args.plan.now.d * c.value_words-k.result ≤ 80
room c = rw c.value_words-k.ensures (scratch_room (plan_of c.args.plan.now) _ c.requires)

pub overflow_mul-n : goal.overflow_mul-n
overflow_mul-n c = omega (arith, room c)

pub slice_bounds-words-end : goal.slice_bounds-words-end
slice_bounds-words-end c = room c

pub slice_bounds-values-end : goal.slice_bounds-values-end
slice_bounds-values-end c = sym (length-take-le _ _ (room (goal.at.slice_bounds-values-end c).After-value_words-k))

pub decode_values-requires : goal.decode_values-requires
decode_values-requires c =
    let long = length-take-le _ _ (room (goal.at.decode_values-requires c).After-value_words-k) in
    decodable (plan_of c.args.plan.now) _ c.requires _ (long ∙ ap (λ k. c.args.plan.now.d * k) c.value_words-k.ensures)

pub chunks_exact-entries-requires : goal.chunks_exact-entries-requires
chunks_exact-entries-requires c = omega (arith, c.value_words-k.ensures, words_some c.args.plan.now.l)

pub scalar_words-requires : goal.scalar_words-requires
scalar_words-requires c = steps_high (plan_of c.args.plan.now) _ c.requires

pub chunks_exact-requires : goal.chunks_exact-requires
chunks_exact-requires c = omega (arith, c.scalar_words.ensures, scalar_some (plan_of c.args.plan.now) _ c.requires)

-- The loop goes over the entries and the scalars, as many words at a time as each has.
firsts : (c : After-into_iter-entry-iterator) → zip_first c.into_iter-entry-iterator.result ≡ c.chunks_exact-entries.result
firsts c = ap zip_first c.into_iter-entry-iterator.ensures.into_iter_gives ∙ c.zip-entry-items.ensures.first

seconds : (c : After-into_iter-entry-iterator) → zip_second c.into_iter-entry-iterator.result ≡ c.chunks_exact.result
seconds c = ap zip_second c.into_iter-entry-iterator.ensures.into_iter_gives ∙ c.zip-entry-items.ensures.second

entry_size : (c : After-into_iter-entry-iterator) → chunks_exact_size (zip_first c.into_iter-entry-iterator.result) ≡ value_words c.args.plan.now.l
entry_size c = ap chunks_exact_size (firsts c) ∙ c.chunks_exact-entries.ensures.size ∙ c.value_words-k.ensures

scalar_size : (c : After-into_iter-entry-iterator) → chunks_exact_size (zip_second c.into_iter-entry-iterator.result) ≡ scalar_words c.args.plan.now.l
scalar_size c = ap chunks_exact_size (seconds c) ∙ c.chunks_exact.ensures.size ∙ c.scalar_words.ensures

pub loop-entry-init-derived : goal.loop-entry-init-derived
loop-entry-init-derived c =
    let some = scalar_some (plan_of c.args.plan.now) _ c.requires in
    ((omega (arith, entry_size c, words_some c.args.plan.now.l), omega (arith, scalar_size c, some)), tt)

pub loop-entry-init : goal.loop-entry-init
loop-entry-init c =
    let long = length-take-le _ _ (room (goal.at.loop-entry-init c).After-value_words-k) in (
      entry_size c,
      scalar_size c,
      left_starts (plan_of c.args.plan.now) _ c.requires c.decode_values.new.values
          (c.decode_values.auto.values ∙ long ∙ ap (λ k. c.args.plan.now.d * k) c.value_words-k.ensures) c.decode_values.ensures
          (ap chunks_exact_rest (firsts c) ∙ c.chunks_exact-entries.ensures.rest)
          (ap chunks_exact_rest (seconds c) ∙ c.chunks_exact.ensures.rest),
    )

pub same_value-requires : goal.same_value-requires
same_value-requires c = omega (arith, c.in-Some.ensures.steps, c.loop-entry.invariant, words_some c.args.plan.now.l)

pub returns-then-not-same_value : goal.returns-then-not-same_value
returns-then-not-same_value c =
    let i = c.loop-entry.invariant in
    let s = c.in-Some.ensures.steps in
    left_differs i.2 (words_some c.args.plan.now.l).0 _ _ _ _ (s.0.1.1 ∙ i.0) (s.1.1.1 ∙ i.1) s.0.1.0 s.1.1.0
    (sym c.if-not-same_value.true ∙ c.same_value.ensures)

pub loop-entry-preserved : goal.loop-entry-preserved
loop-entry-preserved c =
    let i = c.loop-entry.invariant in
    let s = c.in-Some.ensures.steps in (
      s.0.0 ∙ i.0,
      s.1.0 ∙ i.1,
      left_next i.2 (words_some c.args.plan.now.l).0 _ _ _ _ (s.0.1.1 ∙ i.0) (s.1.1.1 ∙ i.1) s.0.1.0 s.1.1.0
          (sym c.if-not-same_value.false ∙ c.same_value.ensures),
    )

pub returns : goal.returns
returns c =
    let i = c.loop-entry.invariant in
    ⊎_elim (λ n. left_ends i.2 (omega (arith, n.1, i.0))) (λ n. left_none i.2 (omega (arith, n.1, i.1))) c.in-None.ensures.steps
