-- `house_order` meets its contract. Rests on the columns in number order being dealt the parities (`dealt_parities`), and on
-- columns rearranged twice being parted and in their places (`rearranged_twice`).
-- Assumes nothing.
use mathlib.Core.Path.{ap, ap₂, ◌∙◌}
use mathlib.Core.List.{◌++◌}
use native.Mathlib.Omega.{arith}
use lib.ListN.{take}
use Rattle.ladder.specs.Numbers.{scalar_words}
use Rattle.ladder.specs.Encoding.{picked, passed, rearrange, house_order}
use Rattle.ladder.specs.Walk.{bits_of}
use Rattle.ladder.proofs.Numbers.{length-numbers_of}
use Rattle.ladder.proofs.Order.{rising_arrangement, arrangement_rearrange}
use Rattle.ladder.proofs.Walk.{length-bits_of}
use Rattle.encode.specs.Inner.Order.{dealt_by}
use Rattle.encode.proofs.Dealt.{rising, arranged_columns, dealt_parities}
use Rattle.encode.proofs.Parting.{rearranged_twice}
use Rattle.encode.proofs.order.house_order.Goals as goal

pub deal-requires-2 : goal.deal-requires-2
deal-requires-2 c =
    let d = c.args.d in
    let r = bits_of d c.deal.result in
    arranged_columns d c.rearrange-falling.result _ (omega arith)
    (c.rearrange-falling.ensures ∙ ap (λ S. rearrange S r) (rising d (omega arith)))
    (arrangement_rearrange (rising_arrangement d) r (length-bits_of d c.deal.result))

pub returns : goal.returns
unfolding house_order
returns c =
    let odd = c.gather-odd in
    let a = c.args in
    let S = rising a.d (omega arith) in
    let r = ap₂ dealt_by odd.ensures S
    ∙ dealt_parities a.d _ (length-numbers_of a.d (scalar_words a.l) a.scalars.now) in
    let falling = take a.d c.rearrange-falling.result in
    c.rearrange.ensures
    ∙ ap (rearrange falling) c.deal-2.ensures.0
    ∙ rearranged_twice odd.result _ falling (c.rearrange-falling.ensures ∙ ap (rearrange _) c.deal.ensures.0)
    ∙ ap₂ (λ S r. picked S r ++ passed S r) S r
