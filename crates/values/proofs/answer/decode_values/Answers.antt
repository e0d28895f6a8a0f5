-- `decode_values` meets its contract: the lower numbers, raised by parity, are the answer row.
-- Assumes nothing.
use Rattle.std.proofs.Common.{arith, ◌∙◌}
use Rattle.loose.specs.PlanOf.{plan_of}
use Rattle.values.proofs.Answering.{answer_in, places, raises, decodes}
use Rattle.values.proofs.answer.decode_values.Goals as goal

pub overflow_sub-row : goal.overflow_sub-row
overflow_sub-row c = omega (arith, answer_in (plan_of c.args.plan.now) _ c.requires)

pub columns_above-above-requires : goal.columns_above-above-requires
columns_above-above-requires c =
    let p = plan_of c.args.plan.now in
    places p _ c.requires c.lower_values-order.ensures (omega (arith, answer_in p _ c.requires))

pub raise-requires : goal.raise-requires
raise-requires c =
    let p = plan_of c.args.plan.now in
    raises p _ c.requires c.lower_values-order.ensures (omega (arith, answer_in p _ c.requires)) _ c.columns_above-above.ensures
    c.value_words.ensures

pub returns : goal.returns
returns c =
    let p = plan_of c.args.plan.now in
    c.raise.ensures
    ∙ decodes p _ c.requires c.lower_values-order.ensures (omega (arith, answer_in p _ c.requires)) _ c.columns_above-above.ensures
    c.value_words.ensures (omega arith)
