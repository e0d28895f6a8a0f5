-- From lower numbers to entries: values raised one by one.
-- Assumes nothing.
use Rattle.std.proofs.Common.{◌≡◌, ℕ, zero, suc, ◌+◌, ◌-◌, ◌*◌, ◌%◌, ◌^◌, ◌<◌, ◌≤◌, cond, ltb, ◌≢◌, List, [], ◌∷◌, ◌++◌, length, get_or, take, drop, set, sym, refl, ap, ◌∙◌, ap₂, append_assoc, le_of_suc-le-suc, not-suc-le-zero, add-zero, suc-mul, zero-mul, arith, length-set, get_or-set_other, get_or-set_same, take_at, ext_get_or, drop_at, le-ltb, lt-ltb, eq-eqb, ne_eqb, eqb}
use mathlib.Core.List.{flatten}
use borrow.Rule.Slice.PartMut.{put_mid, Post-is}
use native.Mathlib.Decide.{ℕ_discrete, dec_le}
use lib.Seq.{take-append-add, drop-append-add}
use Rattle.ladder.specs.Lists.{tabulate}
use Rattle.ladder.specs.Numbers.{number_of, numbers_of, words_of, words_of_all}
use Rattle.ladder.proofs.Lists.{length-tabulate, get_or-tabulate, tabulate-same, tabulate-get_or}
use Rattle.ladder.proofs.Numbers.{length-words_of, number_of-words_of, words_of-number_of, length-numbers_of, words_of_all-numbers_of}
use Rattle.values.specs.Inner.{raised_one, Raisable, raised}

-- ---- the words of one value among many

-- The words of value j ..
part_of : (k : ℕ) (ns : List ℕ) (j : ℕ) → j < length ns → take k (drop (j * k) (words_of_all k ns)) ≡ words_of k (get_or ns j 0)
unfolding words_of_all flatten
part_of k [] j h = absurd (not-suc-le-zero h)
part_of k (n ∷ ns) zero h =
    ap (λ m. take k (drop m (words_of k n ++ words_of_all k ns))) (zero-mul k)
    ∙ take_at (words_of k n) (words_of_all k ns) k (length-words_of k n)
part_of k (n ∷ ns) (suc j) h =
    let e : suc j * k ≡ length (words_of k n) + j * k = omega (arith, suc-mul j k, length-words_of k n) in
    ap (λ m. take k (drop m (words_of k n ++ words_of_all k ns))) e
    ∙ ap (take k) (drop-append-add (words_of k n) (words_of_all k ns) (j * k))
    ∙ part_of k ns j (le_of_suc-le-suc h)

-- .. replaced by those of another number.
part_set : (k : ℕ) (ns : List ℕ) (j x : ℕ) → j < length ns
    → take (j * k) (words_of_all k ns) ++ (words_of k x ++ drop (j * k + k) (words_of_all k ns)) ≡ words_of_all k (set ns j x)
unfolding words_of_all flatten
part_set k [] j x h = absurd (not-suc-le-zero h)
part_set k (n ∷ ns) zero x h =
    let e : zero * k + k ≡ k = omega (arith, zero-mul k) in
    ap₂ (λ a b. take a (words_of k n ++ words_of_all k ns) ++ (words_of k x ++ drop b (words_of k n ++ words_of_all k ns))) (zero-mul k) e
    ∙ ap (λ t. words_of k x ++ t) (drop_at (words_of k n) (words_of_all k ns) k (length-words_of k n))
part_set k (n ∷ ns) (suc j) x h =
    let A = words_of k n in
    let B = words_of_all k ns in
    let e : suc j * k ≡ length A + j * k = omega (arith, suc-mul j k, length-words_of k n) in
    let f : suc j * k + k ≡ length A + (j * k + k) = omega (arith, suc-mul j k, length-words_of k n) in
    ap₂ (λ a b. take a (A ++ B) ++ (words_of k x ++ drop b (A ++ B))) e f
    ∙ ap₂ (λ s t. s ++ (words_of k x ++ t)) (take-append-add A B (j * k)) (drop-append-add A B (j * k + k))
    ∙ append_assoc A (take (j * k) B) (words_of k x ++ drop (j * k + k) B)
    ∙ ap (λ t. A ++ t) (part_set k ns j x (le_of_suc-le-suc h))

-- ---- values raised one by one

-- What has been added to value i when the values before j are done.
abbrev pub up_to : ℕ → (ℕ → ℕ) → ℕ → ℕ
up_to j x i = cond (ltb i j) (x i) 0

done : (j : ℕ) (x : ℕ → ℕ) (i : ℕ) → i < j → up_to j x i ≡ x i
done j x i h = ap (λ t. cond t (x i) 0) (lt-ltb i j h)

to_do : (j : ℕ) (x : ℕ → ℕ) (i : ℕ) → j ≤ i → up_to j x i ≡ 0
to_do j x i h = ap (λ t. cond t (x i) 0) (le-ltb i j h)

-- The values when those before j are done.
abbrev pub raised_to : ℕ → (ℕ → ℕ) → (ℕ → ℕ) → ℕ → List ℕ
raised_to d n x j = tabulate d (λ i. n i + up_to j x i)

same_up_to : (x : ℕ → ℕ) (i j : ℕ) → i ≢ j → up_to (j + 1) x i ≡ up_to j x i
same_up_to x i j ne = go (dec_le (suc i) j)
  where
    go : Dec (i < j) → up_to (j + 1) x i ≡ up_to j x i
    go (yes h) = done (j + 1) x i (omega arith) ∙ sym (done j x i h)
    go (no h) = to_do (j + 1) x i (omega arith) ∙ sym (to_do j x i (omega arith))

raised-set : (d : ℕ) (n x : ℕ → ℕ) (j : ℕ) → j < d → set (raised_to d n x j) j (n j + x j) ≡ raised_to d n x (j + 1)
raised-set d n x j h =
    let R = raised_to d n x j in
    let long = length-tabulate d (λ i. n i + up_to j x i) in
    ext_get_or 0 (set R j (n j + x j)) (raised_to d n x (j + 1))
    (length-set R j (n j + x j) ∙ long ∙ sym (length-tabulate d (λ i. n i + up_to (j + 1) x i)))
    (λ i b. at i (omega (arith, length-set R j (n j + x j), long)) (ℕ_discrete i j))
  where
    at : (i : ℕ) → i < d → Dec (i ≡ j) → get_or (set (raised_to d n x j) j (n j + x j)) i 0 ≡ get_or (raised_to d n x (j + 1)) i 0
    at i b (yes e) =
        ap (λ m. get_or (set (raised_to d n x j) j (n j + x j)) m 0) e
        ∙ get_or-set_same (raised_to d n x j) j (n j + x j) 0 (omega (arith, length-tabulate d (λ i. n i + up_to j x i)))
        ∙ sym
        (ap (λ m. get_or (raised_to d n x (j + 1)) m 0) e
        ∙ get_or-tabulate d (λ i. n i + up_to (j + 1) x i) j 0 h
        ∙ ap (λ m. n j + m) (done (j + 1) x j (omega arith)))
    at i b (no e) =
        get_or-set_other (raised_to d n x j) j i (n j + x j) 0 e
        ∙ get_or-tabulate d (λ i. n i + up_to j x i) i 0 b
        ∙ sym (get_or-tabulate d (λ i. n i + up_to (j + 1) x i) i 0 b ∙ ap (λ m. n i + m) (same_up_to x i j e))

-- ---- one value raised

-- The last digit of a number is that of its first word.
first_word : (ws : List ℕ) → get_or ws 0 0 % 2 ≡ number_of ws % 2
unfolding number_of
first_word [] = refl
first_word (w ∷ ws) = omega arith

pub not_raised : (above : ℕ) (value : List ℕ) → ((i : ℕ) → get_or value i 0 < 2 ^ 64) → get_or value 0 0 % 2 ≡ above → value ≡ raised_one above value
unfolding raised_one
not_raised above value words e =
    sym
    (ap (λ t. words_of (length value) (number_of value + cond t 0 1)) (eq-eqb (number_of value % 2) above (sym (first_word value) ∙ e))
    ∙ ap (words_of (length value)) (add-zero (number_of value))
    ∙ words_of-number_of (length value) value refl words)

pub one_raised : (above : ℕ) (value after : List ℕ) → get_or value 0 0 % 2 ≢ above → after ≡ words_of (length value) (number_of value + 1)
    → after ≡ raised_one above value
unfolding raised_one
one_raised above value after ne e =
    e
    ∙ sym
    (ap (λ t. words_of (length value) (number_of value + cond t 0 1))
    (ne_eqb (number_of value % 2) above (λ q. ne (first_word value ∙ q))))

-- Where a column stands above or not, what is added is 0 or 1.
digit_added : (n above : ℕ) → above ≤ 1 → cond (eqb (n % 2) above) 0 1 ≡ (n % 2 + above) % 2
digit_added n above h = go (ℕ_discrete (n % 2) above)
  where
    go : Dec (n % 2 ≡ above) → cond (eqb (n % 2) above) 0 1 ≡ (n % 2 + above) % 2
    go (yes e) = ap (λ t. cond t 0 1) (eq-eqb (n % 2) above e) ∙ omega arith
    go (no e) = ap (λ t. cond t 0 1) (ne_eqb (n % 2) above e) ∙ omega arith

-- The words of a number that fits, raised.
raised_words : (k n above : ℕ) → n < 2 ^ (64 * k) → above ≤ 1 → raised_one above (words_of k n) ≡ words_of k (n + (n % 2 + above) % 2)
unfolding raised_one
raised_words k n above fits h =
    ap₂ (λ a m. words_of a (m + cond (eqb (m % 2) above) 0 1)) (length-words_of k n) (number_of-words_of k n fits)
    ∙ ap (λ t. words_of k (n + t)) (digit_added n above h)

-- ---- values raised one by one, under way

-- What is added to value i.
abbrev pub added_to : List ℕ → List ℕ → ℕ → ℕ
added_to ns above i = (get_or ns i 0 % 2 + get_or above i 0) % 2

pub record Raising (d k : ℕ) (above start values : List ℕ) (j : ℕ) : Type 0 where
  pub begun : Raisable d k above start
  pub inside : j ≤ d
  pub words : values ≡ words_of_all k (raised_to d (λ i. get_or (numbers_of d k start) i 0) (added_to (numbers_of d k start) above) j)

module _ {d k : ℕ} {above start values : List ℕ} {j : ℕ} (p : Raising d k above start values j) (h : j < d) where
  abbrev n : ℕ → ℕ
  n i = get_or (numbers_of d k start) i 0

  abbrev x : ℕ → ℕ
  x = added_to (numbers_of d k start) above

  abbrev R : List ℕ
  R = raised_to d n x j

  fits : n j < 2 ^ (64 * k)
  fits = omega (arith, p.begun.room j h)

  -- The part that is lent holds value j as it came ..
  lent_now : take (j * k + k - j * k) (drop (j * k) values) ≡ words_of k (n j)
  lent_now =
      let span : j * k + k - j * k ≡ k = omega arith in
      ap₂ (λ m l. take m (drop (j * k) l)) span p.words
      ∙ part_of k R j (omega (arith, length-tabulate d (λ i. n i + up_to j x i)))
      ∙ ap (words_of k)
      (get_or-tabulate d (λ i. n i + up_to j x i) j 0 h ∙ ap (λ m. n j + m) (to_do j x j (omega arith)) ∙ add-zero (n j))

  -- .. which can take one more.
  pub raising_room : (1 ≤ length (take (j * k + k - j * k) (drop (j * k) values)))
      × (number_of (take (j * k + k - j * k) (drop (j * k) values)) + 1 < 2 ^ (64 * length (take (j * k + k - j * k) (drop (j * k) values))))
  raising_room = rw (lent_now, length-words_of k (n j), number_of-words_of k (n j) fits) (p.begun.k_low, p.begun.room j h)

  -- Value j is done.
  pub raising_next : (part : List ℕ) → part ≡ raised_one (get_or above j 0) (take (j * k + k - j * k) (drop (j * k) values))
      → Raising d k above start (put_mid (j * k) (j * k + k - j * k) values part) (j + 1)
  raising_next part e = record {
    begun = p.begun;
    inside = omega arith;
    words =
        ap₂ (λ m t. take (j * k) values ++ (m ++ t))
        (e ∙ ap (raised_one (get_or above j 0)) lent_now ∙ raised_words k (n j) (get_or above j 0) fits (p.begun.few j h))
        (Post-is (j * k) (j * k + k) values (omega arith))
        ∙ ap (λ l. take (j * k) l ++ (words_of k (n j + x j) ++ drop (j * k + k) l)) p.words
        ∙ part_set k R j (n j + x j) (omega (arith, length-tabulate d (λ i. n i + up_to j x i)))
        ∙ ap (words_of_all k) (raised-set d n x j h);
  }

-- Before the first value.
pub raising_starts : (d k : ℕ) (above values : List ℕ) → Raisable d k above values
    → ((i : ℕ) → get_or values i 0 < 2 ^ 64) → Raising d k above values values 0
raising_starts d k above values p words = record {
  begun = p;
  inside = omega arith;
  words =
      sym
      (ap (words_of_all k)
      (tabulate-same d (λ i. n i + up_to 0 (added_to (numbers_of d k values) above) i) n
      (λ i h. ap (λ m. n i + m) (to_do 0 (added_to (numbers_of d k values) above) i (omega arith)) ∙ add-zero (n i))
      ∙ all)
      ∙ words_of_all-numbers_of d k values p.long words);
}
  where
    n : ℕ → ℕ
    n i = get_or (numbers_of d k values) i 0

    all : tabulate d (λ i. get_or (numbers_of d k values) i 0) ≡ numbers_of d k values
    all = ap (λ m. tabulate m (λ i. get_or (numbers_of d k values) i 0)) (sym (length-numbers_of d k values)) ∙ tabulate-get_or (numbers_of d k values) 0

-- After the last.
pub raising_ends : {d k : ℕ} {above start values : List ℕ} {j : ℕ} → Raising d k above start values j → d ≤ j
    → values ≡ words_of_all k (raised d k above start)
unfolding raised
raising_ends {d} {k} {above} {start} {values} {j} p h =
    p.words
    ∙ ap (words_of_all k)
    (tabulate-same d (λ i. get_or (numbers_of d k start) i 0 + up_to j (added_to (numbers_of d k start) above) i)
    (λ i. get_or (numbers_of d k start) i 0 + added_to (numbers_of d k start) above i)
    (λ i b. ap (λ m. get_or (numbers_of d k start) i 0 + m) (done j (added_to (numbers_of d k start) above) i (omega (arith, p.inside)))))
