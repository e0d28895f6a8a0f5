-- Decoding by a walk of orders and signs, with no matrix. `answer_by_walk` shows that it gives the answer row.
-- Assumes nothing.
use Rattle.std.specs.Prelude.{ℕ, zero, suc, ◌+◌, ◌*◌, ◌%◌, List, ℤ, pos, negsuc, get_or, take}
use Rattle.ladder.specs.Lists.{count}
use Rattle.ladder.specs.Matrix.{signs_after}

-- The binary digit that a sign stands for: 0 for +1, 1 for -1.
unfoldable pub digit : ℤ → ℕ
digit (pos n) = 0
digit (negsuc n) = 1

-- The number whose binary digits, top first, are the signs of column j after each of n steps.
unfoldable pub walked : ℕ → List ℕ → (ℕ → List ℕ) → ℕ → ℕ → ℕ
walked d S r zero j = 0
walked d S r (suc n) j = 2 * walked d S r n j + digit (get_or (signs_after d S r (suc n)) j (pos 0))

-- The one of m and m + 1 that is odd where the column stands above row i, and even where it does not.
unfoldable pub walked_entry : ℕ → ℕ → List ℕ → ℕ → ℕ
walked_entry m i S j = m + (m + count j (take i S)) % 2
