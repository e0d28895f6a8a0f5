-- `put` meets its contract. Rests on `put_held` and `put_byte`; the shift loses nothing (`shifted`).
-- Assumes nothing.
use mathlib.Core.Path.{refl}
use Rattle.encode.proofs.Written.{shifted, put_held, put_byte}
use Rattle.encode.proofs.packing.Packer.put.Goals as goal

pub returns-then-self-ge8-clause-put : goal.returns-then-self-ge8-clause-put
returns-then-self-ge8-clause-put c =
    let a = c.args in
    rw (shifted a.self.now a.d a.r c.requires) (put_byte a.self.now a.d a.r c.requires _ c.if-self-ge8.true refl refl refl refl)

pub returns-else-self-ge8-clause-put : goal.returns-else-self-ge8-clause-put
returns-else-self-ge8-clause-put c =
    let a = c.args in
    rw (shifted a.self.now a.d a.r c.requires) (put_held a.self.now a.d a.r c.requires _ c.if-self-ge8.false refl refl refl refl)
