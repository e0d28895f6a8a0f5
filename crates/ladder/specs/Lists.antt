-- Lists that the definitions need: made from a rule, joined, counted.
-- Assumes nothing.
use Rattle.std.specs.Prelude.{ℕ, zero, suc, ◌+◌, ◌%◌, Bool, true, cond, ◌&&◌, List, [], ◌∷◌, ◌++◌, eqb}

-- The list f 0, f 1, .., f (n-1).
unfoldable pub tabulate : {A : Type 0} → ℕ → (ℕ → A) → List A
tabulate zero f = []
tabulate (suc n) f = f zero ∷ tabulate n (λ k. f (suc k))

-- The lists f 0, f 1, .., f (n-1), one after the other.
unfoldable pub joined : {A : Type 0} → ℕ → (ℕ → List A) → List A
joined zero f = []
joined (suc n) f = joined n f ++ f n

-- 1 where two numbers are the same, else 0.
unfoldable pub same : ℕ → ℕ → ℕ
same i j = cond (eqb i j) 1 0

-- How often j stands in a list.
unfoldable pub count : ℕ → List ℕ → ℕ
count j [] = 0
count j (i ∷ S) = same i j + count j S

-- How many bits of a list are 1. A bit is 0 or not 0.
unfoldable pub ones : List ℕ → ℕ
ones [] = 0
ones (zero ∷ r) = ones r
ones (suc b ∷ r) = suc (ones r)

-- How many numbers of a list are odd.
unfoldable pub odds : List ℕ → ℕ
odds [] = 0
odds (a ∷ u) = a % 2 + odds u

-- Every element of a list passes a test.
unfoldable pub all : {A : Type 0} → (A → Bool) → List A → Bool
all test [] = true
all test (a ∷ l) = test a && all test l
