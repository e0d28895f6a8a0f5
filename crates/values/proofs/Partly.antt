-- Values under way: with i digits still to come, the last 64 digits are held, and the words that are full are written.
-- Assumes nothing.
use Rattle.std.proofs.Common.{◌≡◌, ℕ, zero, suc, ◌+◌, ◌-◌, ◌*◌, ◌/◌, ◌%◌, ◌^◌, ◌<◌, ◌≤◌, cond, ◌≢◌, List, [], ◌∷◌, ◌++◌, length, get_or, set, sym, refl, ap, ◌∙◌, subst, ap₂, le_of_suc-le-suc, not-suc-le-zero, mod-lt, suc-mul, div-lt_iff_lt-mul, div-add-mod', zero-add, zero-mul, div-one, arith, get_or-set_other, get_or-set_same, get_or-append-add, ext_get_or, shr-shr, eq-eqb, ne_eqb}
use mathlib.Core.List.{flatten}
use native.Mathlib.Decide.{ℕ_discrete}
use lib.ListN.{get_or-append}
use lib.Arith.{digits_div}
use Rattle.ladder.specs.Lists.{tabulate}
use Rattle.ladder.specs.Numbers.{words_of, words_of_all}
use Rattle.ladder.proofs.Lists.{length-tabulate, get_or-tabulate}
use Rattle.ladder.proofs.Numbers.{length-words_of, length-words_of_all}
use Rattle.values.specs.Inner.{stored, stored_then}
use Rattle.values.proofs.Words.{length-stored, word_inside}

-- ---- where a word stands

-- Two words of two values stand at one place only if both are the same.
same_place : (i j k v w : ℕ) → v < k → w < k → i * k + v ≡ j * k + w → (i ≡ j) × (v ≡ w)
same_place i j k v w h l e =
    let p : 0 < k = omega arith in
    let q : i ≡ j = sym (high i v h) ∙ ap (λ n. n / k) e ∙ high j w l in
    (q, let r : i * k ≡ j * k = ap (λ n. n * k) q in omega arith)
  where
    high : (n u : ℕ) → u < k → (n * k + u) / k ≡ n
    high n u b = digits_div n b

-- The words of values, by value and word.
pub get_or-words_of : (k n v : ℕ) → v < k → get_or (words_of k n) v 0 ≡ n / 2 ^ (64 * v) % 2 ^ 64
unfolding words_of
get_or-words_of zero n v h = absurd (not-suc-le-zero h)
get_or-words_of (suc k) n zero h = ap (λ q. q % 2 ^ 64) (sym (div-one n))
get_or-words_of (suc k) n (suc v) h =
    get_or-words_of k (n / 2 ^ 64) v (le_of_suc-le-suc h)
    ∙ ap (λ q. q % 2 ^ 64) (shr-shr n 64 (64 * v) ∙ ap (λ e. n / 2 ^ e) (omega arith))

get_or-words_of_all : (k : ℕ) (ns : List ℕ) (j v : ℕ) → j < length ns → v < k
    → get_or (words_of_all k ns) (j * k + v) 0 ≡ get_or ns j 0 / 2 ^ (64 * v) % 2 ^ 64
unfolding words_of_all flatten
get_or-words_of_all k [] j v h l = absurd (not-suc-le-zero h)
get_or-words_of_all k (n ∷ ns) zero v h l =
    let e : zero * k + v ≡ v = ap (λ m. m + v) (zero-mul k) ∙ zero-add v in
    ap (λ m. get_or (words_of k n ++ words_of_all k ns) m 0) e
    ∙ get_or-append (words_of k n) (words_of_all k ns) 0 v (omega (arith, length-words_of k n))
    ∙ get_or-words_of k n v l
get_or-words_of_all k (n ∷ ns) (suc j) v h l =
    let e : suc j * k + v ≡ length (words_of k n) + (j * k + v) =
    omega (arith, suc-mul j k, length-words_of k n) in
    ap (λ m. get_or (words_of k n ++ words_of_all k ns) m 0) e
    ∙ get_or-append-add (words_of k n) (words_of_all k ns) (j * k + v) 0
    ∙ get_or-words_of_all k ns j v (le_of_suc-le-suc h) l

-- Words that are those of values at every value and word are the words of the values.
words_of_all_lem : (d k : ℕ) (f : ℕ → ℕ) (values : List ℕ) → 0 < k → length values ≡ d * k
    → ((j v : ℕ) → j < d → v < k → get_or values (j * k + v) 0 ≡ f j / 2 ^ (64 * v) % 2 ^ 64)
    → values ≡ words_of_all k (tabulate d f)
words_of_all_lem d k f values p long e =
    ext_get_or 0 values (words_of_all k (tabulate d f))
    (long ∙ sym (length-words_of_all k (tabulate d f) ∙ ap (λ n. n * k) (length-tabulate d f)))
    (λ n h.
    let j = n / k in
    let v = n % k in
    let at : j * k + v ≡ n = div-add-mod' n k in
    let b : j < d = (div-lt_iff_lt-mul p).1 (subst (λ m. n < m) long h) in
    let c : v < k = mod-lt n p in
    ap (λ m. get_or values m 0) (sym at) ∙ e j v b c
    ∙ sym
    (ap (λ m. get_or (words_of_all k (tabulate d f)) m 0) (sym at)
    ∙ get_or-words_of_all k (tabulate d f) j v (omega (arith, length-tabulate d f)) c
    ∙ ap (λ m. m / 2 ^ (64 * v) % 2 ^ 64) (get_or-tabulate d f j 0 b)))

-- ---- a word stored for each value

pub stored_at : (d k w : ℕ) (held values : List ℕ) (j : ℕ) → w < k → d * k ≤ length values → j < d
    → get_or (stored d k w held values) (j * k + w) 0 ≡ get_or held j 0
unfolding stored
stored_at zero k w held values j h l b = absurd (not-suc-le-zero b)
stored_at (suc i) k w held values j h l b = go (ℕ_discrete j i) (λ q. stored_at i k w held values j h (omega (arith, suc-mul i k)) q)
  where
    here : i * k + w < length (stored i k w held values)
    here = omega (arith, length-stored i k w held values, word_inside i k w (suc i) (omega arith) h)

    go : Dec (j ≡ i) → (j < i → get_or (stored i k w held values) (j * k + w) 0 ≡ get_or held j 0)
        → get_or (set (stored i k w held values) (i * k + w) (get_or held i 0)) (j * k + w) 0 ≡ get_or held j 0
    go (yes e) rest =
        ap (λ m. get_or (set (stored i k w held values) (i * k + w) (get_or held i 0)) (m * k + w) 0) e
        ∙ get_or-set_same (stored i k w held values) (i * k + w) (get_or held i 0) 0 here
        ∙ ap (λ m. get_or held m 0) (sym e)
    go (no e) rest =
        get_or-set_other (stored i k w held values) (i * k + w) (j * k + w) (get_or held i 0) 0
        (λ q. e (same_place j i k w w h h q).0)
        ∙ rest (omega arith)

stored_other : (d k w : ℕ) (held values : List ℕ) (j v : ℕ) → w < k → v < k → v ≢ w
    → get_or (stored d k w held values) (j * k + v) 0 ≡ get_or values (j * k + v) 0
unfolding stored
stored_other zero k w held values j v h l n = refl
stored_other (suc i) k w held values j v h l n =
    get_or-set_other (stored i k w held values) (i * k + w) (j * k + v) (get_or held i 0) 0 (λ q. n (same_place j i k v w l h q).1)
    ∙ stored_other i k w held values j v h l n

-- ---- values under way

pub record Partly (d k i : ℕ) (N : ℕ → ℕ) (held values : List ℕ) : Type 0 where
  pub long : length values ≡ d * k
  pub low : (j : ℕ) → j < d → get_or held j 0 ≡ N j % 2 ^ 64
  pub high : (j v : ℕ) → j < d → v < k → i ≤ 64 * v → get_or values (j * k + v) 0 ≡ N j / 2 ^ (64 * v - i) % 2 ^ 64

-- Twice a number plus a digit, without its last e+1 digits.
grown_high : (n t e : ℕ) → t < 2 → n / 2 ^ e ≡ (2 * n + t) / 2 ^ (e + 1)
grown_high n t e h =
    let half : n ≡ (2 * n + t) / 2 = omega arith in
    let one : 1 + e ≡ e + 1 = omega arith in
    ap (λ m. m / 2 ^ e) half ∙ shr-shr (2 * n + t) 1 e ∙ ap (λ m. (2 * n + t) / 2 ^ m) one

module _ {d k : ℕ} (i : ℕ) {N : ℕ → ℕ} {held values : List ℕ} (p : Partly d k (i + 1) N held values)
    (M t : ℕ → ℕ) (grown : (j : ℕ) → j < d → M j ≡ 2 * N j + t j) (small : (j : ℕ) → j < d → t j < 2)
    (more : List ℕ) (low : (j : ℕ) → j < d → get_or more j 0 ≡ M j % 2 ^ 64) where
  high_next : (j v : ℕ) → j < d → v < k → i + 1 ≤ 64 * v → get_or values (j * k + v) 0 ≡ M j / 2 ^ (64 * v - i) % 2 ^ 64
  high_next j v h l b =
      let e : 64 * v - (i + 1) + 1 ≡ 64 * v - i = omega arith in
      p.high j v h l b
      ∙ ap (λ n. n % 2 ^ 64)
      (grown_high (N j) (t j) (64 * v - (i + 1)) (small j h)
      ∙ ap₂ (λ n m. n / 2 ^ m) (sym (grown j h)) e)

  -- The word is not full: nothing is stored.
  partly_kept : i % 64 ≢ 0 → Partly d k i M more values
  partly_kept n = record {
    long = p.long;
    low = low;
    high = λ j v h l b. high_next j v h l (beyond v b);
  }
    where
      beyond : (v : ℕ) → i ≤ 64 * v → i + 1 ≤ 64 * v
      beyond v b = omega arith

  -- The word is full: it is stored.
  partly_stored : i % 64 ≡ 0 → i / 64 < k → Partly d k i M more (stored d k (i / 64) more values)
  partly_stored z w = record {
    long = length-stored d k (i / 64) more values ∙ p.long;
    low = low;
    high = λ j v h l b. at j v h l b (ℕ_discrete v (i / 64));
  }
    where
      at : (j v : ℕ) → j < d → v < k → i ≤ 64 * v → Dec (v ≡ i / 64)
          → get_or (stored d k (i / 64) more values) (j * k + v) 0 ≡ M j / 2 ^ (64 * v - i) % 2 ^ 64
      at j v h l b (yes e) =
          let x : 64 * v - i ≡ 0 = omega arith in
          ap (λ u. get_or (stored d k (i / 64) more values) (j * k + u) 0) e
          ∙ stored_at d k (i / 64) more values j w (omega (arith, p.long)) h
          ∙ low j h
          ∙ sym (ap (λ m. M j / 2 ^ m % 2 ^ 64) x ∙ ap (λ n. n % 2 ^ 64) (div-one (M j)))
      at j v h l b (no e) =
          stored_other d k (i / 64) more values j v w l e ∙ high_next j v h l (omega arith)

-- No digit is to come: the words are those of the numbers.
pub partly_ends : (d k : ℕ) (N : ℕ → ℕ) (held values : List ℕ) → 0 < k → Partly d k 0 N held values
    → values ≡ words_of_all k (tabulate d N)
partly_ends d k N held values h p =
    words_of_all_lem d k N values h p.long
    (λ j v b c. let e : 64 * v - 0 ≡ 64 * v = omega arith in p.high j v b c (omega arith) ∙ ap (λ m. N j / 2 ^ m % 2 ^ 64) e)

-- ---- full words

pub full_stored : (d k left : ℕ) (held values : List ℕ) → left % 64 ≡ 0 → stored d k (left / 64) held values ≡ stored_then d k left held values
unfolding stored_then
full_stored d k left held values e =
    sym (ap (λ t. cond t (stored d k (left / 64) held values) values) (eq-eqb (left % 64) 0 e))

pub part_stored : (d k left : ℕ) (held values : List ℕ) → left % 64 ≢ 0 → values ≡ stored_then d k left held values
unfolding stored_then
part_stored d k left held values e =
    sym (ap (λ t. cond t (stored d k (left / 64) held values) values) (ne_eqb (left % 64) 0 e))

-- One digit more of each number.
pub partly_next : {d k : ℕ} (i : ℕ) {N : ℕ → ℕ} {held values : List ℕ} → Partly d k (i + 1) N held values
    → (M t : ℕ → ℕ) → ((j : ℕ) → j < d → M j ≡ 2 * N j + t j) → ((j : ℕ) → j < d → t j < 2)
    → (more : List ℕ) → ((j : ℕ) → j < d → get_or more j 0 ≡ M j % 2 ^ 64) → i / 64 < k
    → Partly d k i M more (stored_then d k i more values)
partly_next {d} {k} i {N} {held} {values} p M t grown small more low w = go (ℕ_discrete (i % 64) 0)
  where
    go : Dec (i % 64 ≡ 0) → Partly d k i M more (stored_then d k i more values)
    go (yes z) = subst (Partly d k i M more) (full_stored d k i more values z) (partly_stored i p M t grown small more low z w)
    go (no z) = subst (Partly d k i M more) (part_stored d k i more values z) (partly_kept i p M t grown small more low z)
