-- `hexadecimal` meets its contract. The loop's invariant: the digits from i on are appended.
-- Assumes nothing.
use Prim.Native.Nat.{◌-◌}
use mathlib.Core.Path.{◌≡◌}
use mathlib.Core.List.{◌++◌}
use lib.ListN.{length, take}
use Rattle.ladder.specs.Listing.{hexadecimal}
use Rattle.ladder.specs.Numbers.{number_of}
use Rattle.text.proofs.lines.Lines.hexadecimal.Given as goal

abbrev pub invariant-loop-i : goal.invariant-loop-i
invariant-loop-i l =
    let digits = hexadecimal (number_of l.words) in
    l.self ≡ l.initial.self ++ take (length digits - l.i) digits
