-- Laws of the lists that the definitions are made of.
-- Assumes nothing.
use Prim.Native.Nat.{ℕ, zero, suc, ◌+◌, ◌-◌, ◌*◌, ◌≤◌, ◌<◌}
use mathlib.Core.Path.{◌≡◌, refl, sym, ap, ap₂, subst, ◌∙◌}
use mathlib.Core.Logic.{◌≢◌}
use mathlib.Core.Bool.{Bool, true, false, cond}
use mathlib.Core.List.{List, [], ◌∷◌, ◌++◌, map}
use native.Mathlib.Nat.{le_of_suc-le-suc, not-suc-le-zero, zero-add, suc-add, zero-mul, suc-mul}
use native.Mathlib.Decide.{ℕ_discrete, dec_lt}
use native.Mathlib.Omega.{arith}
use lib.Dec.{T, eqb, eqb→eq, eqb_refl}
use lib.ListN.{length, get_or, replicate, length-append}
use Rattle.std.specs.List.{count_by, fold}
use Rattle.ladder.specs.Lists.{tabulate, joined, same, count, ones, odds}

-- ---- the library's word

-- How often a number occurs: how many elements are equal to it, counted on from n.
counted : (v n : ℕ) (s : List ℕ) → fold (λ a x. a + cond (eqb x v) 1 0) n s ≡ n + count v s
unfolding count same
counted v n [] = omega arith
counted v n (x ∷ s) = counted v (n + cond (eqb x v) 1 0) s ∙ omega arith

pub count_is : (v : ℕ) (s : List ℕ) → count_by (λ x. eqb x v) s ≡ count v s
count_is v s = counted v 0 s ∙ omega arith

-- ---- a list made from a rule

pub length-tabulate : {A : Type 0} (n : ℕ) (f : ℕ → A) → length (tabulate n f) ≡ n
unfolding tabulate
length-tabulate zero f = refl
length-tabulate (suc n) f = ap suc (length-tabulate n (λ k. f (suc k)))

pub get_or-tabulate : {A : Type 0} (n : ℕ) (f : ℕ → A) (i : ℕ) (z : A) → i < n → get_or (tabulate n f) i z ≡ f i
unfolding tabulate
get_or-tabulate zero f i z h = absurd (not-suc-le-zero h)
get_or-tabulate (suc n) f zero z h = refl
get_or-tabulate (suc n) f (suc i) z h = get_or-tabulate n (λ k. f (suc k)) i z (le_of_suc-le-suc h)

-- Two rules that agree below n make the same list.
pub tabulate-same : {A : Type 0} (n : ℕ) (f g : ℕ → A) → ((k : ℕ) → k < n → f k ≡ g k) → tabulate n f ≡ tabulate n g
unfolding tabulate
tabulate-same zero f g e = refl
tabulate-same (suc n) f g e =
    ap₂ (λ a rest. a ∷ rest) (e zero (omega arith))
    (tabulate-same n (λ k. f (suc k)) (λ k. g (suc k)) (λ k h. e (suc k) (omega arith)))

-- A list is made from its own elements.
pub map-tabulate : {A B : Type 0} (g : A → B) (n : ℕ) (f : ℕ → A) → map g (tabulate n f) ≡ tabulate n (λ k. g (f k))
unfolding tabulate
map-tabulate g zero f = refl
map-tabulate g (suc n) f = ap (λ l. g (f 0) ∷ l) (map-tabulate g n (λ k. f (suc k)))

pub tabulate-get_or : {A : Type 0} (l : List A) (z : A) → tabulate (length l) (λ k. get_or l k z) ≡ l
unfolding tabulate
tabulate-get_or [] z = refl
tabulate-get_or (a ∷ l) z = ap (λ rest. a ∷ rest) (tabulate-get_or l z)

-- A list of n + m elements is one of n, then one of m.
pub tabulate_add : {A : Type 0} (n m : ℕ) (f : ℕ → A) → tabulate (n + m) f ≡ tabulate n f ++ tabulate m (λ k. f (n + k))
unfolding tabulate
tabulate_add zero m f =
    ap (λ k. tabulate k f) (zero-add m) ∙ tabulate-same m f (λ k. f (0 + k)) (λ k h. ap f (sym (zero-add k)))
tabulate_add (suc n) m f =
    ap (λ k. tabulate k f) (suc-add n m)
    ∙ ap (λ rest. f zero ∷ rest)
    (tabulate_add n m (λ k. f (suc k))
    ∙ ap (λ rest. tabulate n (λ k. f (suc k)) ++ rest)
    (tabulate-same m (λ k. f (suc (n + k))) (λ k. f (suc n + k)) (λ k h. ap f (sym (suc-add n k)))))

-- A list of one element more.
pub tabulate-suc : {A : Type 0} (n : ℕ) (f : ℕ → A) → tabulate (suc n) f ≡ tabulate n f ++ (f n ∷ [])
unfolding tabulate
tabulate-suc zero f = refl
tabulate-suc (suc n) f = ap (λ rest. f zero ∷ rest) (tabulate-suc n (λ k. f (suc k)))

-- ---- elements of a list of zeros, of two lists and of a mapped list

-- Every element of a list of zeros is 0, and past its end too.
pub get_or_zeros : (n j : ℕ) → get_or (replicate n zero) j 0 ≡ 0
get_or_zeros zero j = refl
get_or_zeros (suc n) zero = refl
get_or_zeros (suc n) (suc j) = get_or_zeros n j

-- Where the elements of two lists are below a bound, so are those of both.
pub append_below : (b : ℕ) (s t : List ℕ) → ((i : ℕ) → get_or s i 0 < b) → ((i : ℕ) → get_or t i 0 < b)
    → (i : ℕ) → get_or (s ++ t) i 0 < b
append_below b [] t h g i = g i
append_below b (a ∷ s) t h g zero = h zero
append_below b (a ∷ s) t h g (suc i) = append_below b s t (λ j. h (suc j)) g i

pub get_or-map : {A B : Type 0} (f : A → B) (l : List A) (i : ℕ) (z : A) (w : B) → i < length l → get_or (map f l) i w ≡ f (get_or l i z)
get_or-map f [] i z w h = absurd (not-suc-le-zero h)
get_or-map f (a ∷ l) zero z w h = refl
get_or-map f (a ∷ l) (suc i) z w h = get_or-map f l i z w (le_of_suc-le-suc h)

pub map-map : {A B C : Type 0} (g : B → C) (f : A → B) (l : List A) → map g (map f l) ≡ map (λ a. g (f a)) l
map-map g f [] = refl
map-map g f (a ∷ l) = ap (λ rest. g (f a) ∷ rest) (map-map g f l)

-- Two functions that agree on a list's elements map it to the same list.
pub map_same : {A B : Type 0} (f g : A → B) (l : List A) (z : A)
    → ((i : ℕ) → i < length l → f (get_or l i z) ≡ g (get_or l i z)) → map f l ≡ map g l
map_same f g [] z e = refl
map_same f g (a ∷ l) z e =
    ap₂ (λ b rest. b ∷ rest) (e zero (omega arith)) (map_same f g l z (λ i h. e (suc i) (omega arith)))

-- ---- lists joined

pub length-joined : {A : Type 0} (d n : ℕ) (f : ℕ → List A) → ((s : ℕ) → s < n → length (f s) ≡ d) → length (joined n f) ≡ n * d
unfolding joined
length-joined d zero f h = sym (zero-mul d)
length-joined d (suc n) f h =
    length-append (joined n f) (f n)
    ∙ ap₂ (λ a b. a + b) (length-joined d n f (λ s l. h s (omega arith))) (h n (omega arith))
    ∙ sym (suc-mul n d)

-- More lists joined are no shorter.
pub length-joined_mono : {A : Type 0} (f : ℕ → List A) (m n : ℕ) → m ≤ n → length (joined m f) ≤ length (joined n f)
unfolding joined
length-joined_mono f m zero h =
    let none : m ≡ 0 = omega arith in
    omega (arith, ap (λ k. length (joined k f)) none)
length-joined_mono f m (suc n) h = go (dec_lt n m) (length-joined_mono f m n)
  where
    go : Dec (n < m) → (m ≤ n → length (joined m f) ≤ length (joined n f)) → length (joined m f) ≤ length (joined (suc n) f)
    go (yes l) rest =
        let all : m ≡ suc n = omega arith in
        omega (arith, ap (λ k. length (joined k f)) all)
    go (no l) rest = omega (arith, rest (omega arith), length-append (joined n f) (f n))

-- Two rules that agree below n are joined to the same list.
pub joined_same : {A : Type 0} (n : ℕ) (f g : ℕ → List A) → ((s : ℕ) → s < n → f s ≡ g s) → joined n f ≡ joined n g
unfolding joined
joined_same zero f g e = refl
joined_same (suc n) f g e = ap₂ (λ a b. a ++ b) (joined_same n f g (λ s l. e s (omega arith))) (e n (omega arith))

-- ---- the same number, and counts

pub same_self : (i : ℕ) → same i i ≡ 1
unfolding same
same_self i = go (eqb i i) refl (eqb_refl i)
  where
    go : (b : Bool) → eqb i i ≡ b → T b → same i i ≡ 1
    go true e t = ap (λ c. cond c 1 0) e
    go false e t = absurd t

pub same_other : (i j : ℕ) → i ≢ j → same i j ≡ 0
unfolding same
same_other i j ne = go (eqb i j) refl
  where
    go : (b : Bool) → eqb i j ≡ b → same i j ≡ 0
    go true e = absurd (ne (eqb→eq i j (subst (λ c. T c) (sym e) tt)))
    go false e = ap (λ c. cond c 1 0) e

-- `same` as arithmetic that `omega` reads.
pub same_is : (i j : ℕ) → same i j ≡ 1 - (i - j) - (j - i)
same_is i j = go (ℕ_discrete i j)
  where
    go : Dec (i ≡ j) → same i j ≡ 1 - (i - j) - (j - i)
    go (yes e) = rw e (omega (arith, same_self j))
    go (no ne) = omega (arith, same_other i j ne)

pub count-append : (j : ℕ) (s t : List ℕ) → count j (s ++ t) ≡ count j s + count j t
unfolding count
count-append j [] t = omega arith
count-append j (i ∷ s) t = omega (arith, count-append j s t)

-- What stands at a place is counted.
pub count_at : (j : ℕ) (S : List ℕ) (k : ℕ) → k < length S → get_or S k 0 ≡ j → 0 < count j S
unfolding count
count_at j [] k h e = absurd (not-suc-le-zero h)
count_at j (i ∷ S) zero h e = omega (arith, same_is i j)
count_at j (i ∷ S) (suc k) h e = omega (arith, count_at j S k (le_of_suc-le-suc h) e)

-- What is counted stands at a place.
pub place : (j : ℕ) (S : List ℕ) → 0 < count j S → (k : ℕ) × (k < length S) × (get_or S k 0 ≡ j)
unfolding count
place j [] h = absurd (not-suc-le-zero h)
place j (i ∷ S) h = go (ℕ_discrete i j) (λ l. place j S l)
  where
    go : Dec (i ≡ j) → (0 < count j S → (k : ℕ) × (k < length S) × (get_or S k 0 ≡ j))
        → (k : ℕ) × (k < length (i ∷ S)) × (get_or (i ∷ S) k 0 ≡ j)
    go (yes e) further = (zero, omega arith, e)
    go (no ne) further =
        let p = further (omega (arith, same_other i j ne)) in
        (suc p.0, omega (arith, p.1), p.2)

-- ---- ones and odds

pub ones_le : (r : List ℕ) → ones r ≤ length r
unfolding ones
ones_le [] = omega arith
ones_le (zero ∷ r) = omega (arith, ones_le r)
ones_le (suc b ∷ r) = omega (arith, ones_le r)

pub odds_le : (u : List ℕ) → odds u ≤ length u
unfolding odds
odds_le [] = omega arith
odds_le (a ∷ u) = omega (arith, odds_le u)
