-- `difference_steps` meets its contract. The loop's invariant is `DifferenceRunning`: the walk and the registers are those after the steps taken.
-- Assumes nothing.
use Rattle.std.proofs.Common.{◌≡◌, length, rules}
use Rattle.walk.specs.WalkState.{walk_state}
use Rattle.difference.specs.Inner.{DifferenceSteps}
use Rattle.difference.proofs.Ran.{at_start, from_start}
use Rattle.difference.proofs.Running.{running_start, bits_there, step_asks, running_next, running_end}
use Rattle.difference.proofs.steps.difference_steps.Goals.{After-start_walk-walk}
use Rattle.difference.proofs.steps.difference_steps.Goals as goal

asks : (c : After-start_walk-walk)
    → let a = c.args in DifferenceSteps a.m (walk_state c.start_walk-walk.result) a.l a.bits.now a.elements.now a.first.words
asks c = at_start c.requires c.start_walk-walk.ensures

pub loop-s-init : goal.loop-s-init
loop-s-init c = running_start (asks (goal.at.loop-s-init c).After-start_walk-walk) (search rules)

pub step_bits-r-requires : goal.step_bits-r-requires
unfolding walk_state
step_bits-r-requires c = bits_there (asks (goal.at.step_bits-r-requires c).After-start_walk-walk) c.loop-s.invariant c.loop-s-test.true

pub difference_step-held-requires : goal.difference_step-held-requires
unfolding walk_state
difference_step-held-requires c = step_asks (asks (goal.at.difference_step-held-requires c).After-start_walk-walk) c.loop-s.invariant

pub loop-s-preserved : goal.loop-s-preserved
unfolding walk_state
loop-s-preserved c =
    let step = c.difference_step-held.ensures in
    let nine : length c.difference_step-held.result.regs ≡ 9 = search (c.difference_step-held.type_inv, rules) in
    running_next (asks (goal.at.loop-s-preserved c).After-start_walk-walk) c.loop-s.invariant _ _ step.0
    c.step_bits-r.ensures c.loop-s-test.true _ nine step.1

pub returns : goal.returns
unfolding walk_state
returns c =
    from_start c.requires c.start_walk-walk.ensures _
    (running_end (asks (goal.at.returns c).After-start_walk-walk) c.loop-s.invariant (search rules))
