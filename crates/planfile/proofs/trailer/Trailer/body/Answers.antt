-- `body` meets its contract: the part has as many bytes as the distance says.
-- Assumes nothing.
use native.Mathlib.Nat.{add_comm}
use Prim.Native.Nat.{◌+◌}
use Rattle.std.proofs.Common.{arith, refl, ap, ◌∙◌}
use Rattle.ladder.specs.PlanFile.{trailer_size}
use Rattle.planfile.proofs.Held.{part_read}
use Rattle.planfile.proofs.trailer.Trailer.body.Goals as goal

pub overflow_sub-to : goal.overflow_sub-to
unfolding trailer_size
overflow_sub-to c = omega arith

pub overflow_sub-result : goal.overflow_sub-result
unfolding trailer_size
overflow_sub-result c = omega (arith, c.args.self.now.read.distance_is)

pub returns : goal.returns
returns c =
    let t = c.args.self.now in
    let cut = part_read t.read c.requires in
    record {
      block_is = refl;
      offset_is = add_comm _ _ ∙ ap (λ n. t.file.ref_ptr.1 + n) cut.0;
      bytes_are = cut.1;
    }
