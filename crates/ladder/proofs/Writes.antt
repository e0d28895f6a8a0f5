-- Elements that are written one after the other into a list.
-- Assumes nothing.
use Prim.Native.Nat.{ℕ, zero, suc, ◌+◌, ◌-◌, ◌≤◌, ◌<◌}
use mathlib.Core.Path.{◌≡◌, refl, sym, ap, ◌∙◌}
use mathlib.Core.List.{List, [], ◌∷◌, ◌++◌, append-nil}
use native.Mathlib.Nat.{zero-add, sub-zero, suc-sub-suc, zero-sub, add-zero}
use native.Mathlib.Omega.{arith}
use lib.ListN.{length, get_or, take, drop, set, replicate, length-replicate, drop_of_length-le}
use lib.Seq.{sets, sets-eq, get_or-set_other}

drop-replicate : {A : Type 0} (n m : ℕ) (a : A) → drop n (replicate m a) ≡ replicate (m - n) a
drop-replicate zero m a = ap (λ k. replicate k a) (sym (sub-zero m))
drop-replicate (suc n) zero a = ap (λ k. replicate k a) (sym (zero-sub (suc n)))
drop-replicate (suc n) (suc m) a = drop-replicate n m a ∙ ap (λ k. replicate k a) (sym (suc-sub-suc m n))

pub take-replicate : {A : Type 0} (n m : ℕ) (a : A) → n ≤ m → take n (replicate m a) ≡ replicate n a
take-replicate zero m a h = refl
take-replicate (suc n) zero a h = absurd (omega arith)
take-replicate (suc n) (suc m) a h = ap (λ l. a ∷ l) (take-replicate n m a (omega arith))

-- A run written at the front of a list of one value stands there, and the value behind it.
pub sets_front : {A : Type 0} (d n : ℕ) (a : A) (vs : List A) → length vs ≡ d → d ≤ n
    → sets (replicate n a) 0 vs ≡ vs ++ replicate (n - d) a
sets_front d n a vs e h =
    sets-eq vs (replicate n a) 0 (omega (arith, length-replicate n a))
    ∙ ap (λ rest. vs ++ rest) (ap (λ k. drop k (replicate n a)) (zero-add (length vs) ∙ e) ∙ drop-replicate d n a)

-- Two runs, one after the other.
pub sets-append : {A : Type 0} (l : List A) (i : ℕ) (us vs : List A) → sets l i (us ++ vs) ≡ sets (sets l i us) (i + length us) vs
sets-append l i [] vs = ap (λ k. sets l k vs) (sym (add-zero i))
sets-append l i (a ∷ us) vs = sets-append _ (suc i) us vs ∙ ap (λ k. sets (sets l i (a ∷ us)) k vs) (omega arith)

-- A run as long as the list is all of it.
pub sets_whole : {A : Type 0} (l vs : List A) → length vs ≡ length l → sets l 0 vs ≡ vs
sets_whole l vs e =
    sets-eq vs l 0 (omega arith)
    ∙ ap (λ rest. vs ++ rest) (drop_of_length-le l {i = 0 + length vs} (omega arith)) ∙ append-nil vs

-- What stands before a run stays.
pub sets_before : {A : Type 0} (l : List A) (i : ℕ) (vs : List A) (k : ℕ) (a : A) → k < i → get_or (sets l i vs) k a ≡ get_or l k a
sets_before l i [] k a h = refl
sets_before l i (b ∷ vs) k a h = sets_before (set l i b) (suc i) vs k a (omega arith) ∙ get_or-set_other l i k b a (omega arith)
