-- Laws of dealing: each place gets its column's bit, and the bits gathered from the scalars are those that a step deals.
-- Assumes nothing.
use Prim.Native.Nat.{ℕ, zero, suc, ◌+◌, ◌-◌, ◌*◌, ◌/◌, ◌%◌, ◌^◌, ◌≤◌, ◌<◌}
use mathlib.Core.Path.{◌≡◌, refl, sym, ap, ap₂, subst, ◌∙◌}
use mathlib.Core.List.{List, [], ◌∷◌, ◌++◌, map, map-append}
use native.Mathlib.Nat.{not-suc-le-zero, le_of_suc-le-suc, div-one, two-pow-succ}
use native.Mathlib.Numerals.{add-one}
use native.Mathlib.Omega.{arith}
use lib.ListN.{length, get_or, take, length-map}
use lib.Seq.{take-suc, get_or-take, ext_get_or}
use lib.Bits.{bit_xor}
use Rattle.ladder.specs.Lists.{tabulate}
use Rattle.ladder.specs.Matrix.{Arrangement}
use Rattle.ladder.specs.Encoding.{dealt, deal}
use Rattle.ladder.specs.Walk.{bits_of}
use Rattle.ladder.proofs.Lists.{length-tabulate, get_or-tabulate, get_or-map, map_same}
use Rattle.ladder.proofs.Encoding.{dealt_is}
use Rattle.scalars.specs.Inner.{gathered}
use Rattle.scalars.proofs.Gathered.{gathered_bit}
use Rattle.encode.specs.Inner.Order.{ColumnsIn, dealt_by}
use Rattle.encode.proofs.Digits.{bits_of_snoc, xor_bit}

-- One place more.
module _ (n : ℕ) (order : List ℕ) (r k : ℕ) (here : k < length order) where
  abbrev bit : ℕ
  bit = n / 2 ^ get_or order k 0 % 2

  pub dealt_small : r < 2 ^ k → r * 2 + bit < 2 ^ (k + 1)
  dealt_small h = rw (add-one k) (omega (arith, two-pow-succ k))

  pub dealt_more : bits_of k r ≡ dealt_by n (take k order) → bits_of (k + 1) (r * 2 + bit) ≡ dealt_by n (take (k + 1) order)
  unfolding dealt_by
  dealt_more e =
      rw (add-one k) (
      bits_of_snoc k r bit (omega arith)
      ∙ ap (λ s. s ++ (bit ∷ [])) e
      ∙ sym
      (ap (map (λ j. n / 2 ^ j % 2)) (take-suc order k 0 here)
      ∙ map-append (λ j. n / 2 ^ j % 2) (take k order) (get_or order k 0 ∷ []))
      )

-- With m steps behind it, the step deals each column its bit m+1 XOR its bit m, counted from the lowest.
pub dealt-gathered : (l : ℕ) (ks S : List ℕ) (m : ℕ) → m < l
    → ((k : ℕ) → k < length S → get_or ks (get_or S k 0) 0 < 2 ^ l)
    → dealt_by (bit_xor (gathered ks (suc m)) (gathered ks m)) S ≡ deal l ks S (l - suc m)
unfolding dealt_by deal
dealt-gathered l ks S m h fits = map_same _ _ S 0 (λ k q. at (get_or S k 0) (fits k q))
  where
    at : (j : ℕ) → get_or ks j 0 < 2 ^ l
        → bit_xor (gathered ks (suc m)) (gathered ks m) / 2 ^ j % 2 ≡ dealt l (get_or ks j 0) (l - suc m)
    at j f =
        let n = get_or ks j 0 in
        let here : l - suc (l - suc m) ≡ m = omega arith in
        let above : l - (l - suc m) ≡ suc m = omega arith in
        xor_bit (gathered ks (suc m)) (gathered ks m) j
        ∙ ap₂ (λ a b. (a + b) % 2) (gathered_bit ks (suc m) j) (gathered_bit ks m j)
        ∙ omega arith
        ∙ sym (ap₂ (λ a b. (n / 2 ^ a % 2 + n / 2 ^ b % 2) % 2) here above)
        ∙ sym (dealt_is l n (l - suc m) f)

-- ---- the columns in number order

take-tabulate : (n d : ℕ) (f : ℕ → ℕ) → d ≤ n → take d (tabulate n f) ≡ tabulate d f
unfolding tabulate
take-tabulate n zero f h = refl
take-tabulate zero (suc d) f h = absurd (not-suc-le-zero h)
take-tabulate (suc n) (suc d) f h = ap (λ rest. f zero ∷ rest) (take-tabulate n d (λ k. f (suc k)) (le_of_suc-le-suc h))

abbrev eight : List ℕ
eight = 0 ∷ 1 ∷ 2 ∷ 3 ∷ 4 ∷ 5 ∷ 6 ∷ 7 ∷ []

eight_is : eight ≡ tabulate 8 (λ j. j)
unfolding tabulate
eight_is = refl

pub rising : (d : ℕ) → d ≤ 8 → take d eight ≡ tabulate d (λ j. j)
rising d h = ap (take d) eight_is ∙ take-tabulate 8 d (λ j. j) h

-- The places of an arrangement hold columns.
pub arranged_columns : (d : ℕ) (order S : List ℕ) → d ≤ 8 → take d order ≡ S → Arrangement d S → ColumnsIn d order
arranged_columns d order S h e a = record {
  d_high = h;
  inside = λ k q. subst (λ j. j < d) (sym (ap (λ s. get_or s k 0) e) ∙ get_or-take d order k 0 q) (a.inside k q);
}

-- Dealt by the gathered lowest bits, the columns in number order get the scalars' parities.
pub dealt_parities : (d : ℕ) (ks : List ℕ) → length ks ≡ d → dealt_by (gathered ks 0) (tabulate d (λ j. j)) ≡ map (λ n. n % 2) ks
unfolding dealt_by
dealt_parities d ks e =
    ext_get_or 0 _ (map (λ n. n % 2) ks)
    (length-map (tabulate d (λ j. j)) bit_of ∙ length-tabulate d (λ j. j) ∙ sym e ∙ sym (length-map ks (λ n. n % 2)))
    (λ j h. at j (omega (arith, length-map (tabulate d (λ j. j)) bit_of, length-tabulate d (λ (j : ℕ). j))))
  where
    bit_of : ℕ → ℕ
    bit_of j = gathered ks 0 / 2 ^ j % 2

    at : (j : ℕ) → j < d → get_or (map bit_of (tabulate d (λ j. j))) j 0 ≡ get_or (map (λ n. n % 2) ks) j 0
    at j h =
        get_or-map bit_of (tabulate d (λ j. j)) j 0 0 (omega (arith, length-tabulate d (λ (j : ℕ). j)))
        ∙ ap bit_of (get_or-tabulate d (λ j. j) j 0 h)
        ∙ gathered_bit ks 0 j
        ∙ ap (λ n. n % 2) (div-one (get_or ks j 0))
        ∙ sym (get_or-map (λ n. n % 2) ks j 0 0 (omega arith))
