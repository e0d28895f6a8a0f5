-- `lower_values` meets its contract: what is held and what is stored are the digits of the signs so far.
-- Assumes nothing.
use Rattle.std.proofs.Common.{◌≡◌, ℕ, sym, take, replicate, arith, length-take-le}
use lib.ListN.{length-replicate}
use Rattle.ladder.specs.Numbers.{value_words}
use Rattle.ladder.proofs.Writes.{take-replicate}
use Rattle.loose.specs.PlanOf.{plan_of}
use Rattle.walk.specs.WalkState.{walk_state}
use Rattle.values.proofs.Lowering.{columns_few, words_long, begins, lowering_starts, lowering_reads, lowering_stores, lowering_next, lowering_ends}
use Rattle.values.proofs.lower.lower_values.Goals as goal

pub slice_bounds-words-end : goal.slice_bounds-words-end
slice_bounds-words-end c = columns_few (plan_of c.args.plan.now) _ c.requires

pub slice_bounds-held-end : goal.slice_bounds-held-end
slice_bounds-held-end c = sym (length-take-le _ _ (columns_few (plan_of c.args.plan.now) _ c.requires))

pub store_words-requires : goal.store_words-requires
unfolding value_words
store_words-requires c =
    let d = c.args.plan.now.d in
    let none : take {A = ℕ} d (replicate 8 0) ≡ replicate d 0 = take-replicate d 8 0 (columns_few (plan_of c.args.plan.now) _ c.requires) in
    rw (c.value_words-k.ensures, none, length-replicate) (omega arith, words_long (plan_of c.args.plan.now) _ c.requires)

pub start_walk-requires : goal.start_walk-requires
start_walk-requires c = begins (plan_of c.args.plan.now) _ c.requires

pub loop-step-init : goal.loop-step-init
unfolding walk_state
loop-step-init c =
    let d = c.args.plan.now.d in
    let none : take {A = ℕ} d (replicate 8 0) ≡ replicate d 0 = take-replicate d 8 0 (columns_few (plan_of c.args.plan.now) _ c.requires) in
    rw (c.store_words.ensures, c.value_words-k.ensures, none, length-replicate)
    (lowering_starts (plan_of c.args.plan.now) _ c.requires c.start_walk.ensures)

pub step_bits-r-requires : goal.step_bits-r-requires
step_bits-r-requires c = lowering_reads c.loop-step.invariant c.loop-step-test.true

pub store_full-requires : goal.store_full-requires
store_full-requires c =
    let digits = c.step_digits-next.ensures in
    rw c.value_words-k.ensures (lowering_stores c.loop-step.invariant c.loop-step-test.true _ c.step_bits-r.ensures _ digits.0 _ digits.1)

pub loop-step-preserved : goal.loop-step-preserved
loop-step-preserved c =
    let digits = c.step_digits-next.ensures in
    rw (c.store_full.ensures, c.value_words-k.ensures)
    (lowering_next c.loop-step.invariant c.loop-step-test.true _ c.step_bits-r.ensures _ digits.0 _ digits.1)

pub returns : goal.returns
returns c = lowering_ends c.loop-step.invariant (omega arith)
