-- Laws of words: a number and its words, numbers laid out one after the other, and how many words hold what.
-- Assumes nothing.
use Prim.Native.Nat.{ℕ, zero, suc, ◌+◌, ◌*◌, ◌/◌, ◌%◌, ◌^◌, ◌≤◌, ◌<◌}
use mathlib.Core.Path.{◌≡◌, refl, sym, ap, ap₂, ◌∙◌}
use mathlib.Core.Logic.{◌≢◌}
use mathlib.Core.List.{List, [], ◌∷◌, ◌++◌, flatten}
use native.Mathlib.Nat.{suc_inj, zero-mul, suc-mul, mul-le-mul_right, suc-ne-zero}
use native.Mathlib.Omega.{arith}
use lib.ListN.{length, get_or, take, drop, length-append, length-drop, take-append-drop}
use lib.Seq.{take_at, drop-append-add, get_or-take, get_or-drop, length-take-le}
use lib.Pow.{pow_pos, pow_mono, pow-lt, pow-add}
use Rattle.ladder.specs.Lists.{tabulate}
use Rattle.ladder.specs.Numbers.{number_of, words_of, numbers_of, words_of_all, scalar_words, value_words}
use Rattle.ladder.proofs.Lists.{length-tabulate, get_or-tabulate, tabulate-same}

-- ---- elements below a bound

-- Where every value of a rule is below a bound, so is every element of its list.
pub tabulate_below : (b n : ℕ) (f : ℕ → ℕ) → 0 < b → ((k : ℕ) → k < n → f k < b) → (i : ℕ) → get_or (tabulate n f) i 0 < b
unfolding tabulate
tabulate_below b zero f p h i = p
tabulate_below b (suc n) f p h zero = h zero (omega arith)
tabulate_below b (suc n) f p h (suc i) = tabulate_below b n (λ k. f (suc k)) p (λ k l. h (suc k) (omega arith)) i

-- The first elements of a list are below what all are below.
pub take_below : (b k : ℕ) (s : List ℕ) → ((i : ℕ) → get_or s i 0 < b) → (i : ℕ) → get_or (take k s) i 0 < b
take_below b zero s h i = omega (arith, h zero)
take_below b (suc k) [] h i = h i
take_below b (suc k) (a ∷ s) h zero = h zero
take_below b (suc k) (a ∷ s) h (suc i) = take_below b k s (λ j. h (suc j)) i

-- So are those after the first k.
pub drop_below : (b k : ℕ) (s : List ℕ) → ((i : ℕ) → get_or s i 0 < b) → (i : ℕ) → get_or (drop k s) i 0 < b
drop_below b k s h i = rw get_or-drop (h (k + i))

-- ---- a number and its words

-- One word more is 64 bits more.
pub pow_words : (k : ℕ) → 2 ^ (64 * suc k) ≡ 2 ^ 64 * 2 ^ (64 * k)
pow_words k = ap (λ e. 2 ^ e) (omega arith) ∙ pow-add 2 64 (64 * k)

-- The k lowest words are k.
pub length-words_of : (k n : ℕ) → length (words_of k n) ≡ k
unfolding words_of
length-words_of zero n = refl
length-words_of (suc k) n = ap suc (length-words_of k (n / 2 ^ 64))

-- A word is below 2^64.
pub words_of_below : (k n i : ℕ) → get_or (words_of k n) i 0 < 2 ^ 64
unfolding words_of
words_of_below zero n i = omega arith
words_of_below (suc k) n zero = omega arith
words_of_below (suc k) n (suc i) = words_of_below k (n / 2 ^ 64) i

-- A number that k words can hold is what its k words stand for.
pub number_of-words_of : (k n : ℕ) → n < 2 ^ (64 * k) → number_of (words_of k n) ≡ n
unfolding number_of words_of
number_of-words_of zero n h = omega arith
number_of-words_of (suc k) n h = omega (arith, number_of-words_of k (n / 2 ^ 64) (omega (arith, pow_words k)))

-- Words are those of the number that they stand for.
pub words_of-number_of : (k : ℕ) (ws : List ℕ) → length ws ≡ k → ((i : ℕ) → get_or ws i 0 < 2 ^ 64) → words_of k (number_of ws) ≡ ws
unfolding number_of words_of
words_of-number_of zero [] e h = refl
words_of-number_of zero (w ∷ ws) e h = absurd (suc-ne-zero (length ws) e)
words_of-number_of (suc k) [] e h = absurd (suc-ne-zero k (sym e))
words_of-number_of (suc k) (w ∷ ws) e h =
    ap₂ (λ a rest. a ∷ rest) (omega (arith, h zero))
    (ap (words_of k) (omega (arith, h zero)) ∙ words_of-number_of k ws (suc_inj e) (λ i. h (suc i)))

-- k words stand for a number below 2^(64k).
pub number_of_below : (k : ℕ) (ws : List ℕ) → length ws ≡ k → ((i : ℕ) → get_or ws i 0 < 2 ^ 64) → number_of ws < 2 ^ (64 * k)
unfolding number_of
number_of_below k [] e h = pow_pos (64 * k)
number_of_below zero (w ∷ ws) e h = absurd (suc-ne-zero (length ws) e)
number_of_below (suc k) (w ∷ ws) e h = omega (arith, h zero, pow_words k, number_of_below k ws (suc_inj e) (λ i. h (suc i)))

-- ---- numbers laid out one after the other

-- Numbers laid out are k words each.
pub length-words_of_all : (k : ℕ) (ns : List ℕ) → length (words_of_all k ns) ≡ length ns * k
unfolding words_of_all flatten
length-words_of_all k [] = sym (zero-mul k)
length-words_of_all k (n ∷ ns) =
    length-append (words_of k n) (words_of_all k ns)
    ∙ omega (arith, length-words_of k n, length-words_of_all k ns, suc-mul (length ns) k)

-- There are d numbers in words.
pub length-numbers_of : (d k : ℕ) (ws : List ℕ) → length (numbers_of d k ws) ≡ d
unfolding numbers_of
length-numbers_of d k ws = length-tabulate d _

-- The first k words are the first number, and the other numbers are in the other words.
pub numbers_of-append : (d k : ℕ) (us ws : List ℕ) → length us ≡ k → numbers_of (suc d) k (us ++ ws) ≡ number_of us ∷ numbers_of d k ws
unfolding numbers_of tabulate
numbers_of-append d k us ws e =
    ap₂ (λ a rest. a ∷ rest) (rw (zero-mul, take_at us ws k e) refl)
    (tabulate-same d _ _ (λ j h. ap (λ v. number_of (take k v)) (later j)))
  where
    later : (j : ℕ) → drop (suc j * k) (us ++ ws) ≡ drop (j * k) ws
    later j =
        let past : suc j * k ≡ length us + j * k = omega (arith, suc-mul j k) in
        rw past (drop-append-add us ws (j * k))

-- Numbers that k words can hold are those in their words.
pub numbers_of-words_of_all : (k : ℕ) (ns : List ℕ) → ((j : ℕ) → get_or ns j 0 < 2 ^ (64 * k)) → numbers_of (length ns) k (words_of_all k ns) ≡ ns
unfolding words_of_all flatten
numbers_of-words_of_all k [] h = unfold numbers_of tabulate in refl
numbers_of-words_of_all k (n ∷ ns) h =
    numbers_of-append (length ns) k (words_of k n) (words_of_all k ns) (length-words_of k n)
    ∙ ap₂ (λ a rest. a ∷ rest) (number_of-words_of k n (h zero)) (numbers_of-words_of_all k ns (λ j. h (suc j)))

-- Each of the numbers in words is below 2^(64k).
pub numbers_of_below : (d k : ℕ) (ws : List ℕ) → length ws ≡ d * k → ((i : ℕ) → get_or ws i 0 < 2 ^ 64) → (j : ℕ) → get_or (numbers_of d k ws) j 0 < 2 ^ (64 * k)
unfolding numbers_of
numbers_of_below d k ws e h = tabulate_below (2 ^ (64 * k)) d _ (pow_pos (64 * k)) each
  where
    each : (j : ℕ) → j < d → number_of (take k (drop (j * k) ws)) < 2 ^ (64 * k)
    each j l =
        let rest = drop (j * k) ws in
        let enough : k ≤ length rest = omega (arith, length-drop (j * k) ws, suc-mul j k, mul-le-mul_right k l) in
        number_of_below k (take k rest) (length-take-le k rest enough) (take_below (2 ^ 64) k rest (drop_below (2 ^ 64) (j * k) ws h))

-- Words are those of the numbers in them.
pub words_of_all-numbers_of : (d k : ℕ) (ws : List ℕ) → length ws ≡ d * k → ((i : ℕ) → get_or ws i 0 < 2 ^ 64) → words_of_all k (numbers_of d k ws) ≡ ws
unfolding words_of_all flatten
words_of_all-numbers_of zero k [] e h = unfold numbers_of tabulate in refl
words_of_all-numbers_of zero k (w ∷ ws) e h = absurd (omega (arith, zero-mul k))
words_of_all-numbers_of (suc d) k ws e h =
    ap (λ v. words_of_all k (numbers_of (suc d) k v)) (sym (take-append-drop k ws))
    ∙ ap (words_of_all k) (numbers_of-append d k (take k ws) (drop k ws) first)
    ∙ ap₂ (λ a b. a ++ b) (words_of-number_of k (take k ws) first (take_below (2 ^ 64) k ws h))
    (words_of_all-numbers_of d k (drop k ws) (omega (arith, length-drop k ws, suc-mul d k)) (drop_below (2 ^ 64) k ws h))
    ∙ take-append-drop k ws
  where
    first : length (take k ws) ≡ k
    first = length-take-le k ws (omega (arith, suc-mul d k))

-- ---- how many words hold what

-- The words of a decoded value hold up to 2^l.
pub value_fits : (l n : ℕ) → n ≤ 2 ^ l → n < 2 ^ (64 * value_words l)
unfolding value_words
value_fits l n h = omega (arith, pow-lt {i = l} {j = 64 * (l / 64 + 1)} (omega arith))

-- The words of a scalar hold what is below 2^l.
pub scalar_fits : (l n : ℕ) → n < 2 ^ l → n < 2 ^ (64 * scalar_words l)
unfolding scalar_words
scalar_fits l n h = omega (arith, pow_mono {i = l} {j = 64 * ((l + 63) / 64)} (omega arith))

-- A word more than a number wants is 0.
pub words_of_more : (k n : ℕ) → n < 2 ^ (64 * k) → words_of (suc k) n ≡ words_of k n ++ (0 ∷ [])
unfolding words_of
words_of_more zero n h = ap (λ w. w ∷ []) (omega arith)
words_of_more (suc k) n h = ap (λ rest. n % 2 ^ 64 ∷ rest) (words_of_more k (n / 2 ^ 64) (omega (arith, pow_words k)))

-- Where 64 divides l, a value's words are a scalar's and a 0.
pub value_words_full : (l n : ℕ) → n < 2 ^ l → l % 64 ≡ 0 → words_of (value_words l) n ≡ words_of (scalar_words l) n ++ (0 ∷ [])
value_words_full l n h e = ap (λ k. words_of k n) count ∙ words_of_more (scalar_words l) n (scalar_fits l n h)
  where
    count : value_words l ≡ suc (scalar_words l)
    count = unfold value_words scalar_words in omega arith

-- Where it does not, they are a scalar's.
pub value_words_lem : (l n : ℕ) → n < 2 ^ l → l % 64 ≢ 0 → words_of (value_words l) n ≡ words_of (scalar_words l) n
unfolding value_words scalar_words
value_words_lem l n h e = ap (λ k. words_of k n) (omega arith)

-- ---- one of the numbers in words

-- The words of number j, where each number has k.
abbrev pub own : ℕ → List ℕ → ℕ → List ℕ
own k ws j = take k (drop (j * k) ws)

-- Number j is the number of its words ..
pub number_at : (d k : ℕ) (ws : List ℕ) (j : ℕ) → j < d → get_or (numbers_of d k ws) j 0 ≡ number_of (own k ws j)
unfolding numbers_of
number_at d k ws j h = get_or-tabulate d (λ i. number_of (own k ws i)) j 0 h

-- .. which are words of 64 bits, those from j*k on ..
pub own_below : (k : ℕ) (ws : List ℕ) → ((i : ℕ) → get_or ws i 0 < 2 ^ 64) → (j i : ℕ) → get_or (own k ws j) i 0 < 2 ^ 64
own_below k ws words j = take_below (2 ^ 64) k (drop (j * k) ws) (drop_below (2 ^ 64) (j * k) ws words)

pub own_at : (k : ℕ) (ws : List ℕ) (j q : ℕ) → q < k → get_or (own k ws j) q 0 ≡ get_or ws (j * k + q) 0
own_at k ws j q h = get_or-take k (drop (j * k) ws) q 0 h ∙ get_or-drop (j * k) ws q 0

-- .. and end within those of all d.
pub own_within : (d k n j : ℕ) → n ≡ d * k → j < d → j * k + k ≤ n
own_within d k n j e h = omega (arith, suc-mul j k, mul-le-mul_right k h)
