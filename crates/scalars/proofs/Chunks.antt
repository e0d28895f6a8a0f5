-- Scalars as the chunks of their words: what a chain over the chunks goes through, and what it says of the numbers.
-- Assumes nothing.
use Prim.Native.Nat.{ℕ, zero, suc, ◌+◌, ◌*◌, ◌/◌, ◌%◌, ◌<◌}
use mathlib.Core.Path.{◌≡◌, refl, sym, ap, ap₂, subst, ◌∙◌}
use mathlib.Core.Bool.{Bool, cond, ◌&&◌}
use mathlib.Core.List.{List, [], ◌∷◌, ◌++◌}
use native.Mathlib.Nat.{zero-mul, suc-mul, add-zero, add-div_left, mul-add-div_right, zero-div, div-eq_of_lt}
use native.Mathlib.Numerals.{add-one}
use native.Mathlib.Omega.{arith}
use lib.Dec.{eqb}
use lib.ListN.{length, get_or, take, drop, length-append}
use lib.Seq.{take_at, drop-append-add}
use Rattle.std.specs.List.{filter, list_all}
use Rattle.std.specs.declared.slice.ChunksExact.{ChunksExact}
use Rattle.std.specs.Slice.Iter.{chunks_exact_rest, chunks_exact_size, chunks_exact_steps}
use Rattle.std.proofs.lemmas.Iterator.{YieldsList}
use Rattle.std.proofs.lemmas.Iterator.Splits.{YieldsList-from_shown_while}
use Rattle.ladder.specs.Lists.{tabulate, odds, all}
use Rattle.ladder.specs.Numbers.{number_of, numbers_of}
use Rattle.ladder.proofs.Lists.{length-tabulate, tabulate-same}
use Rattle.ladder.proofs.Numbers.{own}

-- The words of each of d scalars, k each.
abbrev pub chunks : ℕ → ℕ → List ℕ → List (List ℕ)
chunks d k ws = tabulate d (own k ws)

-- The first k words are the first chunk, and the other chunks are in the other words.
chunks-append : (d k : ℕ) (us ws : List ℕ) → length us ≡ k → chunks (suc d) k (us ++ ws) ≡ us ∷ chunks d k ws
unfolding tabulate
chunks-append d k us ws e =
    ap₂ (λ a rest. a ∷ rest) (rw (zero-mul, take_at us ws k e) refl) (tabulate-same d _ _ (λ j h. ap (take k) (later j)))
  where
    later : (j : ℕ) → drop (suc j * k) (us ++ ws) ≡ drop (j * k) ws
    later j =
        let past : suc j * k ≡ length us + j * k = omega (arith, suc-mul j k) in
        rw past (drop-append-add us ws (j * k))

-- All whole chunks of some words.
abbrev whole : ℕ → List ℕ → List (List ℕ)
whole k ws = chunks (length ws / k) k ws

whole-append : (k : ℕ) (us ws : List ℕ) → 0 < k → length us ≡ k → whole k (us ++ ws) ≡ us ∷ whole k ws
whole-append k us ws some e =
    ap (λ n. chunks n k (us ++ ws))
    (ap (λ n. n / k) (length-append us ws ∙ ap (λ n. n + length ws) e) ∙ add-div_left (length ws) some ∙ add-one (length ws / k))
    ∙ chunks-append (length ws / k) k us ws e

-- `chunks_exact` goes through the words of each scalar.
pub chunked : {s : ChunksExact ℕ} (d k : ℕ) (ws : List ℕ) → chunks_exact_rest s ≡ ws → chunks_exact_size s ≡ k → 0 < k → length ws ≡ d * k
    → YieldsList (chunks_exact_steps {A = ℕ}) (λ x. x.now) s (chunks d k ws)
chunked {s} d k ws e f some long =
    subst (YieldsList (chunks_exact_steps {A = ℕ}) (λ x. x.now) s) all_there
    (YieldsList-from_shown_while chunks_exact_steps (λ x. x.now) left (λ t. 0 < chunks_exact_size t)
    (λ t u p q. length-tabulate _ _ ∙ div-eq_of_lt q.1.0)
    (λ t x u p q. (
      rw q.0 p,
      ap (whole (chunks_exact_size t)) q.1.0
          ∙ whole-append (chunks_exact_size t) x.now (chunks_exact_rest u) p q.1.1
          ∙ ap (λ n. x.now ∷ whole n (chunks_exact_rest u)) (sym q.0),
    ))
    s (rw f some))
  where
    left : ChunksExact ℕ → List (List ℕ)
    left t = whole (chunks_exact_size t) (chunks_exact_rest t)

    count : length ws / k ≡ d
    count = ap (λ n. n / k) (long ∙ sym (add-zero (d * k))) ∙ mul-add-div_right some d 0 ∙ omega (arith, zero-div k)

    all_there : left s ≡ chunks d k ws
    all_there = ap₂ whole f e ∙ ap (λ n. chunks n k ws) count

-- ---- odd numbers

-- A number is odd where its lowest word is.
abbrev pub odd : List ℕ → Bool
odd ws = eqb (get_or ws 0 0 % 2) 1

number_odd : (ws : List ℕ) → number_of ws % 2 ≡ get_or ws 0 0 % 2
unfolding number_of
number_odd [] = refl
number_odd (w ∷ ws) = omega arith

odds_counted : (d : ℕ) (f : ℕ → List ℕ) → length (filter odd (tabulate d f)) ≡ odds (tabulate d (λ j. number_of (f j)))
unfolding tabulate odds
odds_counted zero f = refl
odds_counted (suc d) f = go (get_or (f zero) 0 0 % 2) (number_odd (f zero)) (omega arith) (odds_counted d (λ j. f (suc j)))
  where
    go : (b : ℕ) → number_of (f zero) % 2 ≡ b → b < 2
        → length (filter odd (tabulate d (λ j. f (suc j)))) ≡ odds (tabulate d (λ j. number_of (f (suc j))))
        → length (cond (eqb b 1) (f zero ∷ filter odd (tabulate d (λ j. f (suc j)))) (filter odd (tabulate d (λ j. f (suc j)))))
        ≡ number_of (f zero) % 2 + odds (tabulate d (λ j. number_of (f (suc j))))
    go zero e h i = omega arith
    go (suc zero) e h i = omega arith
    go (suc (suc b)) e h i = absurd (omega arith)

pub odds_are : (d k : ℕ) (ws : List ℕ) → length (filter odd (chunks d k ws)) ≡ odds (numbers_of d k ws)
unfolding numbers_of
odds_are d k ws = odds_counted d (own k ws)

-- ---- a test that each number passes

pub all-tested : (d : ℕ) (f : ℕ → List ℕ) (test : List ℕ → Bool) (small : ℕ → Bool)
    → ((j : ℕ) → j < d → test (f j) ≡ small (number_of (f j))) → list_all test (tabulate d f) ≡ all small (tabulate d (λ j. number_of (f j)))
unfolding tabulate all
all-tested zero f test small h = refl
all-tested (suc d) f test small h =
    ap₂ ◌&&◌ (h zero (omega arith)) (all-tested d (λ j. f (suc j)) test small (λ j l. h (suc j) (omega arith)))
