-- `write_entry` meets its contract: after j coefficients the bytes up to them are the entry's.
-- Assumes nothing.
use Prim.Native.Nat.{◌+◌}
use mathlib.Core.Path.{◌≡◌}
use lib.ListN.{take}
use Rattle.trace.proofs.Entries.{entry_so_far}
use Rattle.trace.proofs.entry.write_entry.Given as goal

abbrev pub invariant-loop-j : goal.invariant-loop-j
invariant-loop-j l = take (l.j + 2) l.out ≡ entry_so_far l.x l.y l.vector l.j
