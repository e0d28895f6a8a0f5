-- An entry's bytes as a loop writes them: x and y, then the vector.
-- Assumes nothing.
use Prim.Native.Nat.{ℕ, suc, ◌+◌, ◌≤◌, ◌<◌}
use mathlib.Core.Path.{◌≡◌, sym, ap, ap₂, ◌∙◌}
use mathlib.Core.List.{List, [], ◌∷◌, ◌++◌, map}
use native.Mathlib.Numerals.{add-one}
use native.Mathlib.Omega.{arith}
use lib.IntN.{ℤ, pos}
use lib.ListN.{length, get_or, take, set}
use Rattle.std.proofs.lemmas.Grind.{common_steps}
use Rattle.ladder.specs.Trace.{signed_byte, entry_bytes}

-- The bytes of an entry with the first j coefficients.
abbrev pub entry_so_far : ℕ → ℕ → List ℤ → ℕ → List ℕ
entry_so_far x y v j = entry_bytes (record { x = x; y = y; vector = take j v })

-- The rows alone ..
pub entry_start : (out : List ℕ) (x y : ℕ) (v : List ℤ) → 2 ≤ length out
    → take (0 + 2) (set (set out 0 (x + 1)) 1 (y + 1)) ≡ entry_so_far x y v 0
unfolding entry_bytes
entry_start [] x y v h = absurd (omega arith)
entry_start (a ∷ []) x y v h = absurd (omega arith)
entry_start (a ∷ b ∷ out) x y v h = ap₂ (λ m n. m ∷ n ∷ []) (add-one x) (add-one y)

-- .. and one coefficient more.
pub entry_more : (out : List ℕ) (x y : ℕ) (v : List ℤ) (j b : ℕ) → take (j + 2) out ≡ entry_so_far x y v j
    → j + 2 < length out → j < length v → b ≡ signed_byte (get_or v j (pos 0))
    → take (j + 1 + 2) (set out (j + 2) b) ≡ entry_so_far x y v (j + 1)
unfolding entry_bytes
entry_more out x y v j b e h k s =
    let front : take (j + 1 + 2) (set out (j + 2) b) ≡ take (j + 2) out ++ (b ∷ []) = grind (arith, common_steps) in
    let more : map signed_byte (take (j + 1) v) ≡ map signed_byte (take j v) ++ (signed_byte (get_or v j (pos 0)) ∷ []) =
    grind (arith, common_steps) in
    front ∙ ap₂ ◌++◌ e (ap (λ c. c ∷ []) s) ∙ sym (ap (λ l. suc x ∷ suc y ∷ l) more)
