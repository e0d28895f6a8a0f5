-- `step_bits` meets its contract: the d bits stand in two neighbouring bytes (`read_two`).
-- Assumes nothing.
use Prim.Native.Nat.{◌+◌, ◌*◌, ◌/◌, ◌%◌}
use mathlib.Core.Path.{◌≡◌}
use native.Mathlib.Omega.{arith}
use lib.ListN.{get_or}
use Rattle.bits.proofs.Reading.{read_two}
use Rattle.bits.proofs.StepBits.{power}
use borrow.Author.Rules.{rules}
use Rattle.bits.proofs.read.step_bits.Goals as goal

pub returns : goal.returns
returns c =
    let a = c.args in
    let at = a.s * a.d / 8 in
    let high : c.unwrap_or-high.result ≡ get_or a.bytes.now at 0 = search rules in
    let low : c.unwrap_or-low.result ≡ get_or a.bytes.now (at + 1) 0 = search rules in
    rw (power a.d c.requires.0, c.from-two.ensures, c.from_be_bytes.ensures)
    (read_two a.bytes.now _ _ at high low (omega arith) a.d a.s (a.s * a.d % 8) c.requires.0 (omega arith) (omega arith))
