-- The lines of the steps one by one, and the bits of a step as characters.
-- Assumes nothing.
use Prim.Native.Nat.{ℕ, suc, ◌+◌, ◌≤◌, ◌<◌}
use mathlib.Core.Path.{◌≡◌, refl, ap, ◌∙◌}
use mathlib.Core.List.{List, [], ◌∷◌, ◌++◌, map}
use native.Mathlib.Numerals.{add-one}
use native.Mathlib.Omega.{arith}
use lib.ListN.{length, get_or, take, length-append, length-map}
use lib.Seq.{take-suc, take_all}
use Rattle.std.proofs.lemmas.Grind.{common_steps}
use Rattle.ladder.specs.Lists.{joined}
use Rattle.ladder.specs.Listing.{character, step_line}
use Rattle.ladder.specs.Numbers.{bits_at}
use Rattle.ladder.specs.Plan.{Plan}
use Rattle.ladder.proofs.Bits.{length-bits_at}
use Rattle.ladder.proofs.Lists.{get_or-map, length-joined_mono}

-- ---- the bits of step s

-- There are d ..
pub shown_long : (d : ℕ) (bytes : List ℕ) (s : ℕ) → length (map character (bits_at d bytes s)) ≡ d
shown_long d bytes s = length-map (bits_at d bytes s) character ∙ length-bits_at d bytes s

-- .. of which one more is put ..
pub shown_next : (d : ℕ) (bytes : List ℕ) (s k : ℕ) → k < d
    → take (k + 1) (map character (bits_at d bytes s))
    ≡ take k (map character (bits_at d bytes s)) ++ character (get_or (bits_at d bytes s) k 0) ∷ []
shown_next d bytes s k h =
    ap (λ n. take n (map character (bits_at d bytes s))) (add-one k)
    ∙ take-suc (map character (bits_at d bytes s)) k 0 (omega (arith, shown_long d bytes s))
    ∙ ap (λ x. take k (map character (bits_at d bytes s)) ++ x ∷ [])
    (get_or-map character (bits_at d bytes s) k 0 0 (omega (arith, length-bits_at d bytes s)))

-- .. and all.
pub shown_all : (d : ℕ) (bytes : List ℕ) (s k : ℕ) → d ≤ k → take k (map character (bits_at d bytes s)) ≡ map character (bits_at d bytes s)
shown_all d bytes s k h = take_all k (map character (bits_at d bytes s)) (omega (arith, shown_long d bytes s))

-- With the usual steps on lists they show how far the bits have come.
pub ruleset showing = (shown_long, shown_next, shown_all, common_steps)

-- ---- the lines

module _ (p : Plan) where
  -- No line ..
  pub steps_none : joined 0 (step_line p) ≡ []
  unfolding joined
  steps_none = refl

  -- .. one more ..
  pub steps_next : (s : ℕ) → joined (s + 1) (step_line p) ≡ joined s (step_line p) ++ step_line p s
  unfolding joined
  steps_next s = ap (λ n. joined n (step_line p)) (add-one s)

  -- .. which are not longer than all.
  pub steps_room : (s : ℕ) → s < p.l → length (joined s (step_line p)) + length (step_line p s) ≤ length (joined p.l (step_line p))
  unfolding joined
  steps_room s h =
      omega (arith, length-joined_mono (step_line p) (suc s) p.l h, length-append (joined s (step_line p)) (step_line p s))

-- With the usual steps on lists they show how far the lines have come.
pub ruleset stepping = (steps_none, steps_next, steps_room, common_steps)
