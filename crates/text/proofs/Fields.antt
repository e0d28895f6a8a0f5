-- Numbers as the fields of a line, each after one space, appended one by one.
-- Assumes nothing.
use Prim.Native.Nat.{ℕ, ◌+◌, ◌≤◌, ◌<◌}
use mathlib.Core.Path.{◌≡◌, refl, sym, ap, ◌∙◌}
use mathlib.Core.List.{List, [], ◌∷◌, ◌++◌, map, flatten, append-nil, append_assoc}
use native.Mathlib.Numerals.{add-one}
use native.Mathlib.Omega.{arith}
use lib.ListN.{length, get_or, take, drop, length-append, length-map, take-append-drop}
use lib.Seq.{take-suc, take_all}
use Rattle.std.proofs.lemmas.Grind.{common_steps}
use Rattle.ladder.specs.Listing.{spaced}
use Rattle.ladder.proofs.Lists.{get_or-map}

-- Fields in two parts.
spaced-append : (fs gs : List (List ℕ)) → spaced (fs ++ gs) ≡ spaced fs ++ spaced gs
unfolding spaced flatten
spaced-append [] gs = refl
spaced-append (f ∷ fs) gs =
    ap (λ rest. 32 ∷ (f ++ rest)) (spaced-append fs gs)
    ∙ ap (λ rest. 32 ∷ rest) (sym (append_assoc f (spaced fs) (spaced gs)))

-- One field.
spaced_one : (f : List ℕ) → spaced (f ∷ []) ≡ 32 ∷ f
unfolding spaced flatten
spaced_one f = ap (λ rest. 32 ∷ rest) (append-nil f)

-- The first i of some numbers, each as a field.
abbrev pub fields : (ℕ → List ℕ) → List ℕ → ℕ → List ℕ
fields f ns i = spaced (take i (map f ns))

-- None ..
pub fields_none : spaced [] ≡ []
unfolding spaced flatten
fields_none = refl

module _ (f : ℕ → List ℕ) (ns : List ℕ) {i : ℕ} where
  -- .. one more ..
  pub fields_next : i < length ns → fields f ns (i + 1) ≡ fields f ns i ++ 32 ∷ f (get_or ns i 0)
  fields_next h =
      let inside : i < length (map f ns) = omega (arith, length-map ns f) in
      ap spaced (ap (λ k. take k (map f ns)) (add-one i) ∙ take-suc (map f ns) i [] inside)
      ∙ spaced-append (take i (map f ns)) (get_or (map f ns) i [] ∷ [])
      ∙ ap (λ l. fields f ns i ++ l) (spaced_one (get_or (map f ns) i []) ∙ ap (λ l. 32 ∷ l) (get_or-map f ns i 0 [] h))

  -- .. which are not longer than all ..
  pub fields_room : i < length ns → length (fields f ns i) + length (32 ∷ f (get_or ns i 0)) ≤ length (spaced (map f ns))
  fields_room h =
      omega (
        arith,
        ap length (fields_next h),
        length-append (fields f ns i) (32 ∷ f (get_or ns i 0)),
        ap length (ap spaced (sym (take-append-drop (i + 1) (map f ns))) ∙ spaced-append (take (i + 1) (map f ns)) (drop (i + 1) (map f ns))),
        length-append (fields f ns (i + 1)) (spaced (drop (i + 1) (map f ns))),
      )

  -- .. and all.
  pub fields_end : length ns ≤ i → fields f ns i ≡ spaced (map f ns)
  fields_end h = ap spaced (take_all i (map f ns) (omega (arith, length-map ns f)))

-- With the usual steps on lists they show where a loop over the fields has come.
pub ruleset fielding = (fields_none, fields_next, fields_room, fields_end, common_steps)
