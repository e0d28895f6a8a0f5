-- `negative` meets its contract: the wrapped difference from m, which is 0 for 2^64 (`negative_some`).
-- Assumes nothing.
use native.Mathlib.Omega.{arith}
use Rattle.registers.proofs.ByModulus.{negative_zero, negative_some}
use Rattle.registers.proofs.modular.Modulus.negative.Goals as goal

pub returns-then-e-eq0 : goal.returns-then-e-eq0
returns-then-e-eq0 c = negative_zero _ _ c.if-e-eq0.true

pub returns-else-e-eq0 : goal.returns-else-e-eq0
returns-else-e-eq0 c =
    let low = c.requires in
    rw (← c.self.view_is) (negative_some c.self.inside.number c.args.e (omega (arith, c.self.invariant)) c.if-e-eq0.false (rw (← c.self.view_is) at low))
