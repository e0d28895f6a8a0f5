-- `fields` meets its contract: the numbers are the trailer's.
-- Assumes nothing.
use Rattle.std.proofs.Common.{◌≡◌, ℕ, ◌-◌, ◌≤◌, arith, length, get_or, take, drop, ◌∙◌}
use Rattle.ladder.specs.PlanFile.{d_in, l_in, answer_in, distance_in, trailer_byte, trailer_size}
use Rattle.planfile.proofs.Held.{trailer_at}
use Rattle.planfile.proofs.trailer.fields.Goals as goal

pub invariant_of-result : goal.invariant_of-result
unfolding d_in l_in answer_in distance_in trailer_size
invariant_of-result c =
    let file = c.args.file.now in
    let long : 12 ≤ length file = c.requires in
    let byte : (i : ℕ)
    → (let from = length file - 12 in get_or (take (length file - from) (drop from file)) i 0 ≡ trailer_byte file i) = λ i. trailer_at file i long in
    record {
      read = record {
        d_is = c.from.ensures ∙ byte 0;
        l_is = omega (arith, c.from-2.ensures, c.from_le_bytes-l.ensures, byte 2, byte 3);
        row_is = c.from-3.ensures ∙ byte 1;
        distance_is = omega (arith, c.from-4.ensures, c.from_le_bytes-distance.ensures, byte 4, byte 5, byte 6, byte 7);
      };
    }
