-- What a test that computes says, in both directions: ranges, lists, arrangements, signs; and refusals in a row.
-- Assumes nothing.
use Prim.Native.Nat.{ℕ, zero, suc, pred, ◌+◌, ◌-◌, ◌≤◌, ◌<◌}
use mathlib.Core.Path.{◌≡◌, refl, sym, ap, ap₂, subst, ◌∙◌}
use mathlib.Core.Logic.{◌↔◌, ◌⊎◌, inl, inr, ⊎_elim}
use Rattle.std.specs.Prelude.{IsTrue}
use mathlib.Core.Bool.{Bool, true, false, cond, ◌&&◌}
use mathlib.Core.List.{List, [], ◌∷◌, map}
use native.Mathlib.Nat.{le_of_suc-le-suc, not-suc-le-zero, suc-pred-eq_of_pos}
use native.Mathlib.Decide.{ℕ_discrete, dec_le, dec_lt}
use native.Mathlib.Omega.{arith}
use lib.Dec.{T, eqb, leb, ltb, leb→le, le→leb, eqb→eq, eqb_refl, eqb-suc-suc}
use lib.IntN.{ℤ, pos, negsuc, nat_abs, pos-ne-negsuc}
use lib.ListN
use lib.ListN.{length, drop, get_or, length-map, get_or-eq_default}
use lib.Seq.{get_or-drop}
use Rattle.ladder.specs.Lists.{tabulate, same, count, all}
use Rattle.ladder.specs.Matrix.{OrderOk, IsUnit, Units}
use Rattle.ladder.specs.Refusals.{◌then◌, refusing, unless, within, each_once, is_arrangement, is_unit, all_units, is_zero}
use Rattle.ladder.proofs.Lists.{length-tabulate, get_or-tabulate, get_or-map}

-- ---- tests and their order

-- Nothing is refused by two in a row only where neither refuses.
pub then_none : (m n : ℕ) → m then n ≡ 0 → (m ≡ 0) × (n ≡ 0)
unfolding ◌then◌
then_none zero n e = (refl, e)
then_none (suc m) n e = absurd (omega arith)

-- Where neither of two refuses, nothing is refused by them in a row.
pub none_then : (m n : ℕ) → m ≡ 0 → n ≡ 0 → m then n ≡ 0
unfolding ◌then◌
none_then m n e f = rw e f

-- So two in a row ask what each asks.
pub then_says : {m n : ℕ} {P Q : Type 0} → m ≡ 0 ↔ P → n ≡ 0 ↔ Q → m then n ≡ 0 ↔ P × Q
then_says {m} {n} p q = (λ e. let t = then_none m n e in (p.0 t.0, q.0 t.1), λ t. none_then m n (p.1 t.0) (q.1 t.1))

-- A refusal that applies is the one given, whatever comes after it ..
pub then_first : (m n : ℕ) → (m ≡ 0 → ⊥) → m then n ≡ m
unfolding ◌then◌
then_first zero n ne = absurd (ne refl)
then_first (suc m) n ne = refl

-- .. and one that does not leaves the next.
pub then_next : (m n : ℕ) → m ≡ 0 → m then n ≡ n
unfolding ◌then◌
then_next m n e = rw e

-- Refusals in a row have one order, however they are grouped.
pub then_assoc : (m n k : ℕ) → (m then n) then k ≡ m then n then k
unfolding ◌then◌
then_assoc zero n k = refl
then_assoc (suc m) n k = refl

-- Two in a row that are each 0 or one number are 0 or that number.
pub then_is : (m n k : ℕ) → (m ≡ 0) ⊎ (m ≡ k) → (n ≡ 0) ⊎ (n ≡ k) → (m then n ≡ 0) ⊎ (m then n ≡ k)
unfolding ◌then◌
then_is zero n k p q = q
then_is (suc m) n k p q = p

-- A refusal that is not given has its test passed.
pub unless_none : (test : Bool) (n : ℕ) → unless test (suc n) ≡ 0 → T test
unfolding unless
unless_none true n e = tt
unless_none false n e = omega arith

-- A passed test gives no refusal.
pub none_unless : (test : Bool) (n : ℕ) → T test → unless test n ≡ 0
unfolding unless
none_unless true n t = refl
none_unless false n t = absurd t

-- A test gives 0 or its own number.
pub unless_is : (test : Bool) (n : ℕ) → (unless test n ≡ 0) ⊎ (unless test n ≡ n)
unfolding unless
unless_is true n = inl refl
unless_is false n = inr refl

-- What a call leaves where nothing is refused, and where something is.
pub refusing_no : {A : Type 0} (n : ℕ) (refused accepted : A) → n ≡ 0 → refusing n refused accepted ≡ accepted
unfolding refusing
refusing_no zero refused accepted e = refl
refusing_no (suc n) refused accepted e = absurd (omega arith)

pub refusing_yes : {A : Type 0} (n : ℕ) (refused accepted : A) → (n ≡ 0 → ⊥) → refusing n refused accepted ≡ refused
unfolding refusing
refusing_yes zero refused accepted e = absurd (e refl)
refusing_yes (suc n) refused accepted e = refl

-- What is left by one refusal is left by its equal.
pub refusing-same : {A : Type 0} {m n : ℕ} {a b : A} (refused accepted : A) → m ≡ n
    → a ≡ refusing m refused accepted → b ≡ refusing n refused accepted → a ≡ b
refusing-same refused accepted e x y = x ∙ ap (λ k. refusing k refused accepted) e ∙ sym y

-- What is left is the same where what would be accepted is.
pub refusing_accepted : {A : Type 0} (n : ℕ) (refused a b : A) → (n ≡ 0 → a ≡ b) → refusing n refused a ≡ refusing n refused b
unfolding refusing
refusing_accepted zero refused a b e = e refl
refusing_accepted (suc n) refused a b e = refl

-- ---- what tests say

-- A test passes exactly where P is so.
pub record Says (test : Bool) (P : Type 0) : Type 0 where
  pub told : T test → P
  pub passed : P → T test

-- What a test says is what its refusal being 0 says.
pub unless_says : {test : Bool} {P : Type 0} (n : ℕ) → Says test P → unless test (suc n) ≡ 0 ↔ P
unless_says {test} n s = (λ e. s.told (unless_none test n e), λ p. none_unless test (suc n) (s.passed p))

-- The same in other words.
pub reworded : {test : Bool} {P Q : Type 0} → Says test P → P ↔ Q → Says test Q
reworded s e = record { told = λ t. e.0 (s.told t); passed = λ q. s.passed (e.1 q) }

-- A test says that it passes.
pub true_says : (test : Bool) → Says test (IsTrue test)
true_says true = record { told = λ t. refl; passed = λ e. tt }
true_says false = record { told = λ t. absurd t; passed = λ e. absurd (let w : false ≡ true = e in (cc)) }

-- The test of "at most".
pub leb_says : (m n : ℕ) → Says (leb m n) (m ≤ n)
leb_says m n = record { told = leb→le m n; passed = le→leb m n }

-- The test of "less than".
pub ltb_says : (m n : ℕ) → Says (ltb m n) (m < n)
ltb_says m n = leb_says (suc m) n

-- The test of equality.
pub eqb_says : (m n : ℕ) → Says (eqb m n) (m ≡ n)
eqb_says m n = record { told = eqb→eq m n; passed = λ e. subst (λ k. T (eqb m k)) e (eqb_refl m) }

-- It passes where that is so, and fails where it is not ..
pub says_yes : {t : Bool} {P : Type 0} → Says t P → P → true ≡ t
says_yes {t = true} s p = refl
says_yes {t = false} s p = absurd (s.passed p)

pub says_no : {t : Bool} {P : Type 0} → Says t P → (P → ⊥) → false ≡ t
says_no {t = true} s n = absurd (n (s.told tt))
says_no {t = false} s n = refl

-- .. and the other way round.
pub says_true : {t : Bool} {P : Type 0} → Says t P → t ≡ true → P
says_true s e = s.told (rw e tt)

pub says_false : {t : Bool} {P : Type 0} → Says t P → t ≡ false → P → ⊥
says_false s e p = rw e at (s.passed p)

-- An answer that is yes exactly where that is so is the test's.
pub says_same : {t r : Bool} {P : Type 0} → Says t P → IsTrue r ↔ P → r ≡ t
says_same {r = true} s e = says_yes s (e.0 refl)
says_same {r = false} s e = says_no s (λ p. bool_differ (e.1 p))
  where
    bool_differ : false ≡ true → ⊥
    bool_differ w = cc

-- Two tests say what both say.
pub and_says : {a b : Bool} {P Q : Type 0} → Says a P → Says b Q → Says (a && b) (P × Q)
and_says {a = true} p q = record { told = λ t. (p.told tt, q.told t); passed = λ t. q.passed t.1 }
and_says {a = false} p q = record { told = λ t. absurd t; passed = λ t. p.passed t.0 }

-- The test of a range.
pub within_says : (lo hi n : ℕ) → Says (within lo hi n) ((lo ≤ n) × (n ≤ hi))
unfolding within
within_says lo hi n = and_says (leb_says lo n) (leb_says n hi)

-- A test of all elements says of each what it says of one.
pub all_says : {A : Type 0} {P : A → Type 0} (test : A → Bool) (z : A) (l : List A)
    → ((a : A) → Says (test a) (P a)) → Says (all test l) ((j : ℕ) → j < length l → P (get_or l j z))
unfolding all
all_says test z [] says = record { told = λ t j h. absurd (not-suc-le-zero h); passed = λ f. tt }
all_says {P} test z (a ∷ l) says =
    reworded (and_says (says a) (all_says test z l says)) (each, λ f. (f zero (omega arith), λ j h. f (suc j) (omega arith)))
  where
    each : P a × ((j : ℕ) → j < length l → P (get_or l j z)) → (j : ℕ) → j < length (a ∷ l) → P (get_or (a ∷ l) j z)
    each t zero h = t.0
    each t (suc j) h = t.1 j (le_of_suc-le-suc h)

-- A test that says "is z", of all elements past n, says that z stands everywhere past n.
pub past_says : {A : Type 0} (test : A → Bool) (z : A) (n : ℕ) (l : List A)
    → ((a : A) → Says (test a) (a ≡ z)) → Says (all test (drop n l)) ((j : ℕ) → n ≤ j → get_or l j z ≡ z)
past_says test z n l says =
    reworded (all_says test z (drop n l) says) (
      λ f j h.
          let e : n + (j - n) ≡ j = omega arith in
          ap (λ k. get_or l k z) (sym e) ∙ sym (get_or-drop n l (j - n) z) ∙ past f (j - n) (dec_lt (j - n) (length (drop n l))),
      λ f j h. get_or-drop n l j z ∙ f (n + j) (omega arith),
    )
  where
    past : ((j : ℕ) → j < length (drop n l) → get_or (drop n l) j z ≡ z) → (j : ℕ) → Dec (j < length (drop n l)) → get_or (drop n l) j z ≡ z
    past f j (yes h) = f j h
    past f j (no h) = get_or-eq_default (drop n l) z (omega arith)

-- Every number is below a bound.
pub below_says : (bound : ℕ) (l : List ℕ) → Says (all (λ n. ltb n bound) l) ((j : ℕ) → j < length l → get_or l j 0 < bound)
below_says bound l = all_says (λ n. ltb n bound) 0 l (λ n. leb_says (suc n) bound)

-- Each of 1..n occurs once.
pub each_once_says : (n : ℕ) (S : List ℕ) → Says (each_once n S) ((j : ℕ) → j < n → count (suc j) S ≡ 1)
unfolding each_once
each_once_says zero S = record { told = λ t j h. absurd (not-suc-le-zero h); passed = λ f. tt }
each_once_says (suc n) S =
    reworded (and_says (eqb_says (count (suc n) S) 1) (each_once_says n S))
    (λ t j h. up_to t j (ℕ_discrete j n) h, λ f. (f n (omega arith), λ j h. f j (omega arith)))
  where
    up_to : (count (suc n) S ≡ 1) × ((i : ℕ) → i < n → count (suc i) S ≡ 1)
        → (j : ℕ) → Dec (j ≡ n) → j < suc n → count (suc j) S ≡ 1
    up_to t j (yes e) h = rw e t.0
    up_to t j (no ne) h = t.1 j (omega arith)

-- ---- orders

-- An order has d places ..
pub order_long : {d : ℕ} (S : List ℕ) → OrderOk d S → length S ≡ d
order_long S o = sym (length-map S pred) ∙ o.columns.long

-- .. and each holds a column from 1 to d.
pub order_at : {d : ℕ} (S : List ℕ) → OrderOk d S → (k : ℕ) → k < d
    → (1 ≤ get_or S k 0) × (get_or S k 0 - 1 ≡ get_or (map pred S) k 0) × (get_or (map pred S) k 0 < d)
order_at S o k h =
    let one : get_or S k 0 ≡ suc (get_or (map pred S) k 0) =
    ap (λ l. get_or l k 0) o.counted ∙ get_or-map suc (map pred S) k 0 0 (omega (arith, o.columns.long)) in
    (omega arith, omega arith, o.columns.inside k h)

-- Columns counted from 1 occur as often as those counted from 0.
pub count-suc : (j : ℕ) (U : List ℕ) → count (suc j) (map suc U) ≡ count j U
unfolding count same
count-suc j [] = refl
count-suc j (i ∷ U) = ap₂ (λ b n. cond b 1 0 + n) (eqb-suc-suc i j) (count-suc j U)

-- Numbers that are not 0 come back after one is taken off and put on.
suc-pred : (S : List ℕ) → ((j : ℕ) → j < length S → 1 ≤ get_or S j 0) → S ≡ map suc (map pred S)
suc-pred [] h = refl
suc-pred (n ∷ S) h =
    ap₂ (λ a l. a ∷ l) (sym (suc-pred-eq_of_pos (h zero (omega arith)))) (suc-pred S (λ j l. h (suc j) (omega arith)))

-- The test of an order says that it is an arrangement of 1..d.
pub is_arrangement_says : (d : ℕ) (S : List ℕ) → Says (is_arrangement d S) (OrderOk d S)
unfolding is_arrangement
is_arrangement_says d S =
    reworded (and_says (and_says (eqb_says (length S) d) (all_says (within 1 d) 0 S (within_says 1 d))) (each_once_says d S)) (
      λ t.
          let counted : S ≡ map suc (map pred S) = suc-pred S (λ j h. (t.0.1 j h).0) in
          record {
            columns = record {
              long = length-map S pred ∙ t.0.0;
              inside = λ k h. rw (ListN.get_or-map pred S k 0) (omega (arith, t.0.1 k (omega (arith, t.0.0))));
              once = λ j h. sym (count-suc j (map pred S)) ∙ ap (count (suc j)) (sym counted) ∙ t.1 j h;
            };
            counted = counted;
          },
      λ ok.
          let long = order_long S ok in (
            (long, λ j h. omega (arith, at ok j h, ok.columns.inside j (omega arith))),
            λ j h. ap (count (suc j)) ok.counted ∙ count-suc j (map pred S) ∙ ok.columns.once j h,
          ),
    )
  where
    at : OrderOk d S → (j : ℕ) → j < length S → get_or S j 0 ≡ suc (get_or (map pred S) j 0)
    at ok j h =
        ap (λ l. get_or l j 0) ok.counted ∙ get_or-map suc (map pred S) j 0 0 (omega (arith, length-map S pred))

-- ---- signs

-- A sign is 1 or -1.
pub is_unit_says : (s : ℤ) → Says (is_unit s) ((s ≡ pos 1) ⊎ (s ≡ negsuc 0))
unfolding is_unit
is_unit_says (pos n) =
    reworded (eqb_says n 1) (λ e. inl (ap pos e), ⊎_elim (λ e. (cc)) (λ e. absurd (pos-ne-negsuc n 0 e)))
is_unit_says (negsuc n) =
    reworded (eqb_says n 0) (λ e. inr (ap negsuc e), ⊎_elim (λ e. absurd (pos-ne-negsuc 1 n (sym e))) (λ e. (cc)))

-- The first d signs are 1 or -1 ..
pub all_units_says : (d : ℕ) (signs : List ℤ) → Says (all_units d signs) (Units d signs)
unfolding all_units
all_units_says d signs =
    let sign : ℕ → ℤ = λ j. get_or signs j (pos 0) in
    reworded (all_says is_unit (pos 0) (tabulate d sign) is_unit_says) (
      λ f j h. rw (get_or-tabulate d sign j (pos 0) h) at (f j (omega (arith, length-tabulate d sign))),
      λ f j h.
          let b : j < d = omega (arith, length-tabulate d sign) in
          rw (get_or-tabulate d sign j (pos 0) b) (f j b),
    )

-- .. so there are as many: one that the list lacks counts as 0.
pub units_long : (d : ℕ) (signs : List ℤ) → Units d signs → d ≤ length signs
units_long d signs u = go (dec_le d (length signs))
  where
    zero_no_unit : IsUnit (pos 0) → ⊥
    zero_no_unit (inl e) = omega (arith, ap nat_abs e)
    zero_no_unit (inr e) = pos-ne-negsuc 0 0 e

    go : Dec (d ≤ length signs) → d ≤ length signs
    go (yes h) = h
    go (no h) =
        absurd (zero_no_unit (subst IsUnit (get_or-eq_default signs (pos 0) (omega arith)) (u (length signs) (omega arith))))

-- A sign is 0.
pub is_zero_says : (s : ℤ) → Says (is_zero s) (s ≡ pos 0)
unfolding is_zero
is_zero_says (pos n) = reworded (eqb_says n 0) (λ e. ap pos e, λ e. (cc))
is_zero_says (negsuc n) = record { told = λ t. absurd t; passed = λ e. pos-ne-negsuc 0 n (sym e) }
