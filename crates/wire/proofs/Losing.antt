-- An input that is read twice has lost what both reads took.
-- Assumes nothing.
use Rattle.std.proofs.Common.{ℕ, List, [], ◌++◌, Option}
use Rattle.std.proofs.KnownBytes.{Consumes-nil, Consumes-trans}
use Rattle.wire.specs.Moved.{Loses}

pub Loses-nothing : (a : Option (List ℕ)) → Loses a a
Loses-nothing a = ([], Consumes-nil a)

pub Loses-trans : (a b c : Option (List ℕ)) → Loses a b → Loses b c → Loses a c
Loses-trans a b c first second = (first.0 ++ second.0, Consumes-trans a b c first.0 second.0 first.1 second.1)
