-- `write_entry` meets its contract: after j coefficients the bytes up to them are the entry's.
-- Assumes nothing.
use native.Mathlib.Omega.{arith}
use lib.IntN.{pos}
use lib.ListN.{get_or}
use mir.Facts.{to_z-of_z}
use mir.Syntax.{w8}
use mir.Val.{SFits}
use Rattle.trace.proofs.Entries.{entry_start, entry_more}
use borrow.Author.Rules.{rules}
use Rattle.trace.proofs.entry.write_entry.Goals as goal

pub loop-j-init : goal.loop-j-init
loop-j-init c = entry_start _ _ _ c.args.vector (omega arith)

pub loop-j-preserved : goal.loop-j-preserved
loop-j-preserved c =
    let small : SFits w8 (get_or c.args.vector c.loop-j.j (pos 0)) = search rules in
    entry_more _ _ _ _ _ _ c.loop-j.invariant (search rules) (search rules) (simp to_z-of_z at c.signed_byte.ensures)
