-- Each line as the characters of its word, its fields, each after one space, and the newline.
-- Assumes nothing.
use Prim.Native.Nat.{ℕ, suc, ◌+◌}
use mathlib.Core.Path.{◌≡◌, refl, ap, ◌∙◌}
use mathlib.Core.List.{List, [], ◌∷◌, ◌++◌, map, flatten, append-nil, append_assoc}
use native.Mathlib.Numerals.{add-one}
use Rattle.std.proofs.lemmas.Grind.{common_steps}
use Rattle.ladder.specs.Listing.{character, decimal, hexadecimal, spaced, line}
use Rattle.ladder.specs.Listing.{plan_word, start_word, value_word, refused_word, plan_line, start_line, step_line, value_line, refused_text}
use Rattle.ladder.specs.Plan.{Plan, step_bits, answer_row}

-- A line of one field ..
line_one : (first f : List ℕ) → line first (f ∷ []) ≡ first ++ ((32 ∷ f) ++ 10 ∷ [])
unfolding line spaced flatten
line_one first f = ap (λ l. first ++ (32 ∷ (l ++ 10 ∷ []))) (append-nil f)

-- .. and one of three.
line_three : (first f g h : List ℕ) → line first (f ∷ g ∷ h ∷ []) ≡ first ++ ((32 ∷ f) ++ ((32 ∷ g) ++ ((32 ∷ h) ++ 10 ∷ [])))
unfolding line spaced flatten
line_three first f g h =
    ap (λ l. first ++ (32 ∷ l))
    (append_assoc f (32 ∷ (g ++ 32 ∷ (h ++ []))) (10 ∷ [])
    ∙ ap (λ l. f ++ (32 ∷ l)) (append_assoc g (32 ∷ (h ++ [])) (10 ∷ []) ∙ ap (λ l. g ++ (32 ∷ (l ++ 10 ∷ []))) (append-nil h)))

-- The line `plan` ..
pub plan_line_is : (p : Plan)
    → plan_line p ≡ (0x70 ∷ 0x6c ∷ 0x61 ∷ 0x6e ∷ []) ++ ((32 ∷ decimal p.d) ++ ((32 ∷ decimal p.l) ++ ((32 ∷ decimal p.answer) ++ 10 ∷ [])))
unfolding plan_line plan_word
plan_line_is p = line_three plan_word (decimal p.d) (decimal p.l) (decimal p.answer)

-- .. `start` ..
pub start_line_is : (p : Plan) → start_line p ≡ (0x73 ∷ 0x74 ∷ 0x61 ∷ 0x72 ∷ 0x74 ∷ []) ++ (spaced (map decimal p.start) ++ 10 ∷ [])
unfolding start_line start_word line
start_line_is p = refl

-- .. that of a step ..
pub step_line_is : (p : Plan) (s : ℕ) → step_line p s ≡ decimal (s + 1) ++ ((32 ∷ map character (step_bits p s)) ++ 10 ∷ [])
unfolding step_line
step_line_is p s = rw (add-one s) (line_one (decimal (suc s)) (map character (step_bits p s)))

-- .. `value` ..
pub value_line_is : (p : Plan) → value_line p ≡ (0x76 ∷ 0x61 ∷ 0x6c ∷ 0x75 ∷ 0x65 ∷ []) ++ (spaced (map hexadecimal (answer_row p)) ++ 10 ∷ [])
unfolding value_line value_word line
value_line_is p = refl

-- .. and `refused`.
pub refused_text_is : (n : ℕ) → refused_text n ≡ (0x72 ∷ 0x65 ∷ 0x66 ∷ 0x75 ∷ 0x73 ∷ 0x65 ∷ 0x64 ∷ []) ++ ((32 ∷ decimal n) ++ 10 ∷ [])
unfolding refused_text refused_word
refused_text_is n = line_one refused_word (decimal n)

-- With the usual steps on lists they show how far a line has come.
pub ruleset spelled = (plan_line_is, start_line_is, step_line_is, value_line_is, refused_text_is, common_steps)
