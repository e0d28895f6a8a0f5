-- "Listing": the text that the listing program writes for a plan file. Text is a list of ASCII characters.
-- Assumes nothing.
use Rattle.std.specs.Prelude.{ℕ, zero, suc, ◌+◌, ◌/◌, ◌%◌, cond, ltb}
use mathlib.Core.List.{List, [], ◌∷◌, ◌++◌, map, flatten}
use Rattle.ladder.specs.Lists.{joined}
use Rattle.ladder.specs.Plan.{Plan, step_bits, answer_row}
use Rattle.ladder.specs.PlanFile.{plan_in}
use Rattle.ladder.specs.Refusals.{refusing, list_refusal}

-- ---- numbers

-- The digits of n in a base, the highest first, divided by the base k times at the most.
unfoldable pub digits_within : ℕ → ℕ → ℕ → List ℕ
digits_within zero base n = n ∷ []
digits_within (suc k) base n = cond (ltb n base) (n ∷ []) (digits_within k base (n / base) ++ (n % base ∷ []))

-- The digits of a number in a base of 2 or more, the highest first, with no leading zeros; of zero the one digit 0. In base 10 those of
-- 576 are 5, 7, 6.
unfoldable pub digits_of : ℕ → ℕ → List ℕ
digits_of base n = digits_within n base n

-- A digit as a character: 0 to 9, then a to f.
unfoldable pub character : ℕ → ℕ
character x = cond (ltb x 10) (48 + x) (87 + x)

-- A number in decimal ..
unfoldable pub decimal : ℕ → List ℕ
decimal n = map character (digits_of 10 n)

-- .. and in lower-case hexadecimal.
unfoldable pub hexadecimal : ℕ → List ℕ
hexadecimal n = map character (digits_of 16 n)

-- ---- lines

-- Fields, each after one space.
unfoldable pub spaced : List (List ℕ) → List ℕ
spaced fields = flatten (map (λ field. 32 ∷ field) fields)

-- A line: its first field, each further field after one space, and a newline.
unfoldable pub line : List ℕ → List (List ℕ) → List ℕ
line first fields = first ++ (spaced fields ++ (10 ∷ []))

-- "plan"
unfoldable pub plan_word : List ℕ
plan_word = 0x70 ∷ 0x6c ∷ 0x61 ∷ 0x6e ∷ []

-- "start"
unfoldable pub start_word : List ℕ
start_word = 0x73 ∷ 0x74 ∷ 0x61 ∷ 0x72 ∷ 0x74 ∷ []

-- "value"
unfoldable pub value_word : List ℕ
value_word = 0x76 ∷ 0x61 ∷ 0x6c ∷ 0x75 ∷ 0x65 ∷ []

-- "refused"
unfoldable pub refused_word : List ℕ
refused_word = 0x72 ∷ 0x65 ∷ 0x66 ∷ 0x75 ∷ 0x73 ∷ 0x65 ∷ 0x64 ∷ []

-- `plan` d l row.
unfoldable pub plan_line : Plan → List ℕ
plan_line p = line plan_word (decimal p.d ∷ decimal p.l ∷ decimal p.answer ∷ [])

-- `start` and the order.
unfoldable pub start_line : Plan → List ℕ
start_line p = line start_word (map decimal p.start)

-- A step's number, from 1, and its bits, r1 first.
unfoldable pub step_line : Plan → ℕ → List ℕ
step_line p s = line (decimal (suc s)) (map character (step_bits p s) ∷ [])

-- `value` and the decoded entries in column order.
unfoldable pub value_line : Plan → List ℕ
value_line p = line value_word (map hexadecimal (answer_row p))

-- ---- the text

-- The lines of a plan.
unfoldable pub plan_text : Plan → List ℕ
plan_text p = plan_line p ++ (start_line p ++ (joined p.l (step_line p) ++ value_line p))

-- `refused` and the number.
unfoldable pub refused_text : ℕ → List ℕ
refused_text n = line refused_word (decimal n ∷ [])

-- The listing of any bytes.
unfoldable pub listing_text : List ℕ → List ℕ
listing_text file = refusing (list_refusal file) (refused_text (list_refusal file)) (plan_text (plan_in file))
