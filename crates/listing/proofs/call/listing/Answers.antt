-- `listing` keeps its promise: a plan that a file holds can be listed, and its lines fit the buffer.
-- Assumes nothing.
use Rattle.std.proofs.Common.{◌≡◌, ◌≤◌, ◌++◌, length, sym, ap, ◌∙◌}
use lib.Seq.{length-take-le}
use Rattle.std.proofs.lemmas.Result.{err_from_is_err_and}
use Rattle.ladder.specs.PlanFile.{plan_in}
use Rattle.ladder.specs.Listing.{plan_text}
use Rattle.loose.specs.PlanOf.{plan_of}
use Rattle.ladder.proofs.Operations.{ListingOk, listing_none}
use Rattle.listing.proofs.Kept.{kept_refused, kept_accepted, listable, lines_room, lines_fit}
use Rattle.listing.proofs.call.listing.Goals.{In_ok-plan, After-text-listed}
use Rattle.listing.proofs.call.listing.Goals as goal

-- Where nothing is refused, the file and the buffer are what the listing asks.
asked : (c : In_ok-plan) → ListingOk c.args.file.now c.args.text.now
asked c = (listing_none c.args.file.now c.args.text.now).0 (sym c.in_ok-plan.ensures.refusal)

-- The lines are the text of the plan that the file holds ..
lines : (c : After-text-listed) → c.text-listed.result.now ≡ plan_text (plan_in c.args.file.now)
lines c =
    c.text-listed.ensures.text
    ∙ c.plan_lines.ensures
    ∙ ap (λ start. start ++ plan_text (plan_of c.in_ok-plan.plan)) c.new-lines.ensures
    ∙ ap plan_text c.in_ok-plan.ensures.plan

-- .. and fit the buffer.
fits : (c : After-text-listed) → length c.text-listed.result.now ≤ length c.args.text.now
fits c = lines_fit c.args.file.now c.args.text.now ((listing_none c.args.file.now c.args.text.now).0 (sym c.in_ok-plan.ensures.refusal)) _ (lines c)

pub returns-in_err-plan : goal.returns-in_err-plan
returns-in_err-plan c =
    let gave = err_from_is_err_and c.from_residual.result c.from_residual.ensures.1 in
    rw (gave.1, gave.2) (kept_refused _ _ _ c.in_err-plan.ensures.refusal)

pub plan_lines-requires : goal.plan_lines-requires
plan_lines-requires c =
    let file = c.args.file.now in
    let text = c.args.text.now in
    let ok = asked (goal.at.plan_lines-requires c).In_ok-plan in (
      listable file text ok c.in_ok-plan.ensures.plan,
      lines_room file text ok c.in_ok-plan.ensures.plan _ c.new-lines.ensures,
    )

pub slice_bounds-copy_from_slice-end : goal.slice_bounds-copy_from_slice-end
slice_bounds-copy_from_slice-end c = fits c

pub slice_bounds-copy_from_slice-end-2 : goal.slice_bounds-copy_from_slice-end-2
slice_bounds-copy_from_slice-end-2 c = sym (length-take-le _ _ (fits (goal.at.slice_bounds-copy_from_slice-end-2 c).After-text-listed))

pub copy_from_slice-requires : goal.copy_from_slice-requires
copy_from_slice-requires c = length-take-le _ _ (fits (goal.at.copy_from_slice-requires c).After-text-listed)

pub returns : goal.returns
returns c =
    let put = kept_accepted c.args.file.now c.args.text.now c.text-listed.result.now c.in_ok-plan.ensures.refusal (lines (goal.at.returns c).After-text-listed) in
    rw c.copy_from_slice.ensures.after put
