-- `value_line` meets its contract: its word, a field for each value and the newline make the line (`value_line_is`).
-- Assumes nothing.
use Prim.Native.Nat.{◌*◌, ◌≤◌}
use mathlib.Core.Path.{◌≡◌, sym}
use mathlib.Core.List.{map}
use native.Mathlib.Omega.{arith}
use lib.ListN.{length}
use lib.Seq.{length-take-le}
use Rattle.std.proofs.lemmas.Grind.{common_steps}
use Rattle.ladder.specs.Listing.{hexadecimal, spaced}
use Rattle.ladder.specs.Plan.{answer_row}
use Rattle.loose.specs.PlanOf.{plan_of}
use Rattle.text.proofs.Fields.{fields, fields_next, fields_room, fields_end}
use Rattle.text.proofs.Spelled.{value_line_is}
use Rattle.text.proofs.PlanLines.{scratch, decodable}
use Rattle.text.proofs.ValueLine.{ValueAt, k_low, turned, ended}
use Rattle.text.proofs.lines.Lines.value_line.Goals.{After-value_words-words, After-decode_values, In-Some, In-None}
use Rattle.text.proofs.lines.Lines.value_line.Goals as goal

-- There is room for the values ..
room : (c : After-value_words-words) → c.args.plan.now.d * c.value_words-words.result ≤ 80
room c = scratch (plan_of c.args.plan.now) c.requires.0 _ c.value_words-words.ensures

pub overflow_mul-room : goal.overflow_mul-room
overflow_mul-room c = omega (arith, room c)

pub slice_bounds-room-end : goal.slice_bounds-room-end
slice_bounds-room-end c = room (goal.at.slice_bounds-room-end c).After-value_words-words

pub slice_bounds-values-end : goal.slice_bounds-values-end
slice_bounds-values-end c = sym (length-take-le _ _ (room (goal.at.slice_bounds-values-end c).After-value_words-words))

pub decode_values-requires : goal.decode_values-requires
decode_values-requires c =
    decodable (plan_of c.args.plan.now) c.requires.0 _ _ c.value_words-words.ensures
    (length-take-le _ _ (room (goal.at.decode_values-requires c).After-value_words-words))

-- .. of a word at least.
some : (c : After-decode_values) → 1 ≤ c.value_words-words.result
some c = k_low (plan_of c.args.plan.now) c.requires.0 _ c.value_words-words.ensures _ c.decode_values.ensures

pub chunks_exact-value-items-requires : goal.chunks_exact-value-items-requires
chunks_exact-value-items-requires c = some (goal.at.chunks_exact-value-items-requires c).After-decode_values

pub loop-value-init-derived : goal.loop-value-init-derived
loop-value-init-derived c = grind (arith, common_steps, some (goal.at.loop-value-init-derived c).After-decode_values)

-- The value is the next of the answer row.
turn : (c : In-Some) → ValueAt (plan_of c.args.plan.now) (length c.loop-value.yielded) c.in-Some.value.now
turn c =
    turned (plan_of c.args.plan.now) c.requires.0 _ c.value_words-words.ensures _ c.decode_values.ensures _ (cc) (cc) _ _ c.loop-value.yielded_by _ _
    c.next.ensures.steps c.in-Some.value c.in-Some.is

pub byte-requires : goal.byte-requires
byte-requires c =
    let p = plan_of c.args.plan.now in
    let value = turn (goal.at.byte-requires c).In-Some in
    grind (arith, common_steps, value_line_is p, fields_room hexadecimal (answer_row p) value.within)

pub hexadecimal-requires : goal.hexadecimal-requires
hexadecimal-requires c =
    let p = plan_of c.args.plan.now in
    let value = turn (goal.at.hexadecimal-requires c).In-Some in
    (value.low, (value.high, grind (arith, common_steps, value_line_is p, fields_room hexadecimal (answer_row p) value.within, value.number)))

pub loop-value-preserved : goal.loop-value-preserved
loop-value-preserved c =
    let p = plan_of c.args.plan.now in
    let value = turn (goal.at.loop-value-preserved c).In-Some in
    grind (arith, common_steps, fields_next hexadecimal (answer_row p) value.within, value.number)

-- All of the answer row is appended.
all : (c : In-None)
    → let row = answer_row (plan_of c.args.plan.now) in
    fields hexadecimal row (length c.loop-value.yielded) ≡ spaced (map hexadecimal row)
all c =
    fields_end hexadecimal (answer_row (plan_of c.args.plan.now))
    (ended (plan_of c.args.plan.now) c.requires.0 _ c.value_words-words.ensures _ c.decode_values.ensures _ (cc) (cc) _ _ c.loop-value.yielded_by _ _
    c.next.ensures.steps c.in-None.is)

pub byte-requires-2 : goal.byte-requires-2
byte-requires-2 c = grind (arith, common_steps, value_line_is (plan_of c.args.plan.now), all (goal.at.byte-requires-2 c).In-None)

pub returns : goal.returns
returns c = grind (arith, common_steps, value_line_is (plan_of c.args.plan.now), all (goal.at.returns c).In-None)
