-- `add` meets its contract: the highest bit of the wrapped difference says whether the modulus comes back (`sum_reduced`).
-- Assumes nothing.
use Rattle.std.proofs.Common.{refl}
use Rattle.registers.proofs.ByModulus.{sum_reduced}
use Rattle.registers.proofs.modular.Modulus.add.Goals as goal

pub returns : goal.returns
returns c =
    let low = c.requires in
    rw (← c.self.view_is)
    (sum_reduced c.self.inside.number c.args.a c.args.b _ _ c.self.invariant (rw (← c.self.view_is) at low.0) (rw (← c.self.view_is) at low.1) refl refl)
