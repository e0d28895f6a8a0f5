-- What follows from step's promise alone, for a crate above to cite.
-- Assumes nothing.
use Prim.Native.Nat.{ℕ, zero, suc, ◌-◌, ◌^◌, ◌≤◌, ◌<◌}
use mathlib.Core.Path.{◌≡◌, sym, ap, subst, ◌∙◌}
use mathlib.Core.Logic.{◌≢◌, ◌↔◌}
use native.Mathlib.Omega.{arith}
use lib.IntN.{pos}
use lib.ListN.{length, replicate, get_or-append}
use Rattle.ladder.specs.Matrix.{start_signs, order_after, signs_after}
use Rattle.ladder.specs.Plan.{Plan, start_order, step_bits, order_in, signs_in}
use Rattle.ladder.specs.Walk.{walk_of, step_walk}
use Rattle.ladder.specs.Refusals.{walk_order}
use Rattle.ladder.proofs.Bits.{length-step_bits, step_bits_below}
use Rattle.ladder.proofs.Walk.{number_of_bits, number_of_bits_below, walk_after, walk_after_lem, length-signs_after}
use Rattle.ladder.proofs.WalkSteps.{walk_in_order}
use Rattle.ladder.proofs.Tests.{refusing_no, refusing_yes}
use Rattle.ladder.proofs.Refusals.{Accepted, walk_order_none}
use Rattle.ladder.proofs.Operations.{StepOk, step_none}
use Rattle.ladder.proofs.Demand3.{state_in}
use Rattle.walk.specs.declared.state.Walk.{Walk}
use Rattle.walk.specs.WalkState.{walk_state}
use Rattle.walk.specs.Promise.{StepPromise}
use Rattle.bits.proofs.PlanWalk.{ready_in}
use Rattle.walk.proofs.Unique.{same-walk}

-- ---- step

module _ {w : Walk} {bits refusal : ℕ} {walkAfter : Walk} (promise : StepPromise w bits refusal walkAfter) where
  -- Step's refusal is 0 exactly where the state and the number are what it asks ..
  pub step_accepts : refusal ≡ 0 ↔ StepOk (walk_state w) bits
  step_accepts = subst (λ n. n ≡ 0 ↔ StepOk (walk_state w) bits) (sym promise.refusal_is) (step_none (walk_state w) bits)

  -- .. then the refusal is 0 and the state is the next one ..
  pub step_accepted : StepOk (walk_state w) bits → (refusal ≡ 0) × (walk_state walkAfter ≡ step_walk (walk_state w) bits)
  step_accepted ok =
      let none = step_accepts.1 ok in
      (none, promise.walk_is ∙ refusing_no _ _ _ none)

  -- .. and on refusal it is the state that was handed in.
  pub step_refused : refusal ≢ 0 → walkAfter ≡ w
  step_refused some = same-walk walkAfter w (promise.walk_is ∙ refusing_yes _ _ _ some)

-- ---- a plan's walk

module _ (p : Plan) (ok : Accepted p) where
  -- The walk state before step s (the rules' step s+1) is in order ..
  walk_ok_in : (s : ℕ) → walk_order (walk_of p.d (order_in p s) (signs_in p s)) ≡ 0
  unfolding walk_of signs_in
  walk_ok_in s =
      let many = length-signs_after p.d (start_order p) (step_bits p) s in
      walk_in_order (signs_in p s) ok.d_high (state_in p ok s).order many
      (λ j h. let b : j < length (signs_in p s) = omega arith in
      rw (get_or-append (signs_in p s) (replicate (8 - p.d) (pos 0)) (pos 0) j b) at ((ready_in p ok s).signs j h))

  -- .. its bits are a number of d bits ..
  bits_in : (s : ℕ) → number_of_bits (step_bits p s) < 2 ^ p.d
  bits_in s = subst (λ n. number_of_bits (step_bits p s) < 2 ^ n) (length-step_bits p s) (number_of_bits_below (step_bits p s) (step_bits_below p s))

  -- .. and the step leads to the state before the next.
  step_in : (s : ℕ)
      → step_walk (walk_of p.d (order_in p s) (signs_in p s)) (number_of_bits (step_bits p s)) ≡ walk_of p.d (order_in p (suc s)) (signs_in p (suc s))
  unfolding order_in signs_in walk_after
  step_in s =
      let after = walk_after_lem p.d (start_order p) (step_bits p) ok.start.long (length-step_bits p) (step_bits_below p) in
      sym (ap (λ w. step_walk w (number_of_bits (step_bits p s))) (after s)) ∙ after (suc s)

  -- A walk that stands before step s of an accepted plan, stepped with that step's bits, stands before the next.
  pub steps_along : (s : ℕ) (w : Walk) (refusal : ℕ) (walkAfter : Walk) → walk_state w ≡ walk_of p.d (order_in p s) (signs_in p s)
      → StepPromise w (number_of_bits (step_bits p s)) refusal walkAfter
      → (refusal ≡ 0) × (walk_state walkAfter ≡ walk_of p.d (order_in p (suc s)) (signs_in p (suc s)))
  unfolding walk_of
  steps_along s w refusal walkAfter e promise =
      let asked : StepOk (walk_of p.d (order_in p s) (signs_in p s)) (number_of_bits (step_bits p s)) = record {
        dimension = (ok.d_low, ok.d_high);
        walk = (walk_order_none _).0 (walk_ok_in s);
        number = bits_in s;
      } in
      let done = step_accepted promise (subst (λ v. StepOk v (number_of_bits (step_bits p s))) (sym e) asked) in
      (done.0, done.1 ∙ ap (λ v. step_walk v (number_of_bits (step_bits p s))) e ∙ step_in s)

  -- So the walk of the start order and signs +1, stepped n times with the plan's bits, holds the order and the signs before each
  -- step and after the last, and no step refuses. Walk s is what stands before step s, and refusal s that step's.
  pub walks_along : (w : ℕ → Walk) (refusal : ℕ → ℕ) (n : ℕ) → walk_state (w 0) ≡ walk_of p.d (start_order p) (start_signs p.d)
      → ((s : ℕ) → s < n → StepPromise (w s) (number_of_bits (step_bits p s)) (refusal s) (w (suc s)))
      → ((s : ℕ) → s ≤ n → walk_state (w s) ≡ walk_of p.d (order_in p s) (signs_in p s)) × ((s : ℕ) → s < n → refusal s ≡ 0)
  unfolding order_in signs_in order_after signs_after
  walks_along w refusal n begins promises = (stands, λ s h. (steps_along s (w s) (refusal s) (w (suc s)) (stands s (omega arith)) (promises s h)).0)
    where
      stands : (s : ℕ) → s ≤ n → walk_state (w s) ≡ walk_of p.d (order_in p s) (signs_in p s)
      stands zero h = begins
      stands (suc s) h = (steps_along s (w s) (refusal s) (w (suc s)) (stands s (omega arith)) (promises s h)).1
