-- What is known of an input and of an output after reading and writing, also after an error.
-- Assumes nothing.
use Rattle.std.specs.Prelude.{ℕ, List, Option}
use Rattle.std.specs.Io.KnownBytes.{Appends, Consumes}

-- The input has lost some bytes from its front, and no others.
abbrev pub Loses : Option (List ℕ) → Option (List ℕ) → Type 0
Loses old new = (bytes : List ℕ) × Consumes old new bytes

-- The output has gained some bytes behind those that it had, which stay.
abbrev pub Gains : Option (List ℕ) → Option (List ℕ) → Type 0
Gains old new = (bytes : List ℕ) × Appends old new bytes
