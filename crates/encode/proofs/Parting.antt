-- Laws of columns parted by a bit that each has: parted and turned twice, they stand in their places.
-- Assumes nothing.
use Prim.Native.Nat.{ℕ, zero, suc, ◌/◌, ◌%◌, ◌^◌}
use mathlib.Core.Path.{◌≡◌, refl, sym, ap, ap₂, ◌∙◌}
use mathlib.Core.List.{List, [], ◌∷◌, ◌++◌, map, reverse, append-nil, reverse-cons, reverse-reverse}
use Rattle.ladder.specs.Encoding.{picked, passed, rearrange}
use Rattle.encode.specs.Inner.Order.{dealt_by}

module _ (f : ℕ → ℕ) where
  -- The columns with bit 1, and those with bit 0, where column j has the bit f j.
  abbrev on : List ℕ → List ℕ
  on S = picked S (map f S)

  abbrev off : List ℕ → List ℕ
  off S = passed S (map f S)

  on_append : (S T : List ℕ) → on (S ++ T) ≡ on S ++ on T
  unfolding picked
  on_append [] T = refl
  on_append (j ∷ S) T = go (f j) (on_append S T)
    where
      go : (b : ℕ) → on (S ++ T) ≡ on S ++ on T → picked (j ∷ (S ++ T)) (b ∷ map f (S ++ T)) ≡ picked (j ∷ S) (b ∷ map f S) ++ on T
      go zero e = e
      go (suc b) e = ap (λ rest. j ∷ rest) e

  off_append : (S T : List ℕ) → off (S ++ T) ≡ off S ++ off T
  unfolding passed
  off_append [] T = refl
  off_append (j ∷ S) T = go (f j) (off_append S T)
    where
      go : (b : ℕ) → off (S ++ T) ≡ off S ++ off T → passed (j ∷ (S ++ T)) (b ∷ map f (S ++ T)) ≡ passed (j ∷ S) (b ∷ map f S) ++ off T
      go zero e = ap (λ rest. j ∷ rest) e
      go (suc b) e = e

  on_reverse : (S : List ℕ) → on (reverse S) ≡ reverse (on S)
  unfolding picked
  on_reverse [] = refl
  on_reverse (j ∷ S) =
      ap on (reverse-cons j S) ∙ on_append (reverse S) (j ∷ []) ∙ ap (λ s. s ++ on (j ∷ [])) (on_reverse S) ∙ go (f j)
    where
      go : (b : ℕ) → reverse (on S) ++ picked (j ∷ []) (b ∷ []) ≡ reverse (picked (j ∷ S) (b ∷ map f S))
      go zero = append-nil (reverse (on S))
      go (suc b) = sym (reverse-cons j (on S))

  off_reverse : (S : List ℕ) → off (reverse S) ≡ reverse (off S)
  unfolding passed
  off_reverse [] = refl
  off_reverse (j ∷ S) =
      ap off (reverse-cons j S) ∙ off_append (reverse S) (j ∷ []) ∙ ap (λ s. s ++ off (j ∷ [])) (off_reverse S) ∙ go (f j)
    where
      go : (b : ℕ) → reverse (off S) ++ passed (j ∷ []) (b ∷ []) ≡ reverse (passed (j ∷ S) (b ∷ map f S))
      go zero = sym (reverse-cons j (off S))
      go (suc b) = append-nil (reverse (off S))

  -- P has only columns with bit 1, Q only such with bit 0.
  record Parted (P Q : List ℕ) : Type 0 where
    on_p : on P ≡ P
    off_p : off P ≡ []
    on_q : on Q ≡ []
    off_q : off Q ≡ Q

  parted : (S : List ℕ) → Parted (on S) (off S)
  unfolding picked passed
  parted [] = record { on_p = refl; off_p = refl; on_q = refl; off_q = refl }
  parted (j ∷ S) = go (f j) refl (parted S)
    where
      go : (b : ℕ) → f j ≡ b → Parted (on S) (off S) → Parted (picked (j ∷ S) (b ∷ map f S)) (passed (j ∷ S) (b ∷ map f S))
      go zero e p = record {
        on_p = p.on_p;
        off_p = p.off_p;
        on_q = ap (λ b. picked (j ∷ off S) (b ∷ map f (off S))) e ∙ p.on_q;
        off_q = ap (λ b. passed (j ∷ off S) (b ∷ map f (off S))) e ∙ ap (λ rest. j ∷ rest) p.off_q;
      }
      go (suc b) e p = record {
        on_p = ap (λ b. picked (j ∷ on S) (b ∷ map f (on S))) e ∙ ap (λ rest. j ∷ rest) p.on_p;
        off_p = ap (λ b. passed (j ∷ on S) (b ∷ map f (on S))) e ∙ p.off_p;
        on_q = p.on_q;
        off_q = p.off_q;
      }

  twice : (S : List ℕ) → rearrange (reverse (on S) ++ off S) (map f (reverse (on S) ++ off S)) ≡ on S ++ off S
  unfolding rearrange
  twice S =
      let p = parted S in
      ap₂ (λ s z. reverse s ++ z)
      (on_append (reverse (on S)) (off S)
      ∙ ap₂ (λ s z. s ++ z) (on_reverse (on S) ∙ ap reverse p.on_p) p.on_q
      ∙ append-nil (reverse (on S)))
      (off_append (reverse (on S)) (off S)
      ∙ ap₂ (λ s z. s ++ z) (off_reverse (on S) ∙ ap reverse p.off_p) p.off_q)
      ∙ ap (λ s. s ++ off S) (reverse-reverse (on S))

-- Columns rearranged twice, each time by the bits that n deals them, are parted and in their places.
pub rearranged_twice : (n : ℕ) (S once : List ℕ) → once ≡ rearrange S (dealt_by n S)
    → rearrange once (dealt_by n once) ≡ picked S (dealt_by n S) ++ passed S (dealt_by n S)
unfolding rearrange dealt_by
rearranged_twice n S once e =
    ap (λ T. rearrange T (map (λ j. n / 2 ^ j % 2) T)) e ∙ twice (λ j. n / 2 ^ j % 2) S
