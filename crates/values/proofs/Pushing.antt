-- One digit more for each column: as the loop over the places of the new order pushes them, and that they are the digits of the signs.
-- Assumes nothing.
use Rattle.std.proofs.Common.{◌≡◌, ℕ, zero, suc, pred, ◌+◌, ◌-◌, ◌*◌, ◌%◌, ◌^◌, ◌<◌, ◌≤◌, List, map, length, get_or, take, drop, set, replicate, ℤ, pos, neg_ℤ, sym, refl, ap, ◌∙◌, ap₂, inl, ⊎_elim, arith, length-set, get_or-set_other, get_or-set_same}
use native.Mathlib.Nat.{mod-add-mod}
use native.Mathlib.Decide.{ℕ_discrete, dec_lt}
use lib.ListN.{get_or-replicate, get_or-append}
use Rattle.ladder.specs.Matrix.{Arrangement, IsUnit, Units, order_from, step_order, start_signs, step_signs, order_after, signs_after}
use Rattle.ladder.specs.Walk.{bits_of}
use Rattle.ladder.specs.Inner.Decoding.{digit, walked}
use Rattle.ladder.proofs.Lists.{get_or-map}
use Rattle.ladder.proofs.Order.{place_of, place_once, arrangement_step}
use Rattle.ladder.proofs.Signs.{turned, turn_at}
use Rattle.ladder.proofs.Step.{length-step_order}
use Rattle.ladder.proofs.Walk.{length-bits_of, length-signs_after}
use Rattle.ladder.proofs.WalkSteps.{turn_units}
use Rattle.ladder.proofs.Writes.{sets_before}
use Rattle.bits.specs.Ready.{Columns}
use Rattle.bits.proofs.Filling.{Filling, filling_next, filling_room}
use Rattle.bits.proofs.Stepping.{places_step}
use Rattle.values.specs.Inner.{pushed, Pushed}
use Rattle.values.proofs.Words.{digit_small}

-- ---- one word

-- Twice a word, without its top digit, takes the digit.
pub word_pushed : (w b v : ℕ) → w < 2 ^ 64 → v ≡ (w + w) % 2 ^ 64 → v + (w % 2 + b) % 2 ≡ pushed b w
unfolding pushed
word_pushed w b v h e =
    let small : (w % 2 + b) % 2 < 2 = omega arith in
    go ((w % 2 + b) % 2) small (dec_lt w (2 ^ 63)) ∙ ap (λ t. (2 * w + t) % 2 ^ 64) (mod-add-mod w 2 b)
  where
    go : (t : ℕ) → t < 2 → Dec (w < 2 ^ 63) → v + t ≡ (2 * w + t) % 2 ^ 64
    go t q (yes l) =
        let twice : v ≡ 2 * w = omega arith in
        omega arith
    go t q (no l) =
        let twice : v + 2 ^ 64 ≡ 2 * w = omega arith in
        omega arith

-- ---- the loop over the places

-- The place that is read lies in the order.
place_read : (x k b d : ℕ) → b ≤ x → x + k < d + b → b < 2 → (x - b + k * (1 - b) < d) × (k * (1 - b) ≤ k)
place_read x k zero d l h q = (omega arith, omega arith)
place_read x k (suc zero) d l h q = (omega arith, omega arith)
place_read x k (suc (suc b)) d l h q = absurd (omega arith)

-- What reading the place of bit b, the k-th, asks, and pushing the digit of the column there.
pub record Room (old held : List ℕ) (x k b : ℕ) : Type 0 where
  pub taken : b ≤ x
  pub binary : b < 2
  pub place : x - b + k * (1 - b) < 8
  pub column_low : 1 ≤ get_or old (x - b + k * (1 - b)) 0
  pub column_high : get_or old (x - b + k * (1 - b)) 0 - 1 < length held

-- The new order, columns from 0.
abbrev pub new_order : ℕ → List ℕ → ℕ → List ℕ
new_order d old n = step_order (map pred (take d old)) (bits_of d n)

-- After k places: the order filled so far, and a digit more for the columns at these places.
pub record Pushing (d : ℕ) (old : List ℕ) (n : ℕ) (held new : List ℕ) (x : ℕ) (after : List ℕ) (k : ℕ) : Type 0 where
  pub filling : Filling d old n new x k
  pub eight : length new ≡ 8
  pub long : length after ≡ d
  pub done : (m : ℕ) → m < k
      → get_or after (get_or (new_order d old n) m 0) 0 ≡ pushed (get_or (bits_of d n) m 0) (get_or held (get_or (new_order d old n) m 0) 0)
  pub rest : (m : ℕ) → k ≤ m → m < d → get_or after (get_or (new_order d old n) m 0) 0 ≡ get_or held (get_or (new_order d old n) m 0) 0

module _ {d : ℕ} {old : List ℕ} (small : d ≤ 8) (a : Columns d old) (n : ℕ) where
  arrangement : Arrangement d (new_order d old n)
  arrangement = arrangement_step a.columns (bits_of d n) (length-bits_of d n)

  -- What is filled in at place k is the column there, counted from 1.
  filled_column : (new : List ℕ) (x k c : ℕ) → Filling d old n (set new k c) x (k + 1) → length new ≡ 8 → k < d
      → c ≡ suc (get_or (new_order d old n) k 0)
  filled_column new x k c f eight h =
      let long = length-step_order (take d old) (bits_of d n) in
      let own = length-step_order (map pred (take d old)) (bits_of d n) in
      let bits = length-bits_of d n in
      sym (sets_before (set new k c) (k + 1) (order_from (take d old) x (x + (k + 1)) (drop (k + 1) (bits_of d n))) k 0 (omega arith) ∙ get_or-set_same new k c 0 (omega arith))
      ∙ ap (λ l. get_or l k 0) f.done
      ∙ get_or-append (step_order (take d old) (bits_of d n)) (replicate (8 - d) 0) 0 k (omega (arith, long, bits))
      ∙ ap (λ l. get_or l k 0) (places_step a (bits_of d n) bits)
      ∙ get_or-map suc (new_order d old n) k 0 0 (omega (arith, own, bits))

  pub pushing_start : (held : List ℕ) → length held ≡ d → (x : ℕ) → Filling d old n (replicate 8 0) x 0
      → Pushing d old n held (replicate 8 0) x held 0
  pushing_start held long x f = record {
    filling = f;
    eight = refl;
    long = long;
    done = λ m h. absurd (omega arith);
    rest = λ m h l. refl;
  }

  module _ {held new : List ℕ} {x : ℕ} {after : List ℕ} {k : ℕ} (p : Pushing d old n held new x after k) (h : k < d)
      (b : ℕ) (e : b ≡ get_or (bits_of d n) k 0) where
    abbrev c : ℕ
    c = get_or old (x - b + k * (1 - b)) 0

    -- What is read lies in the order, and holds a column from 1 to d ..
    pub pushing_room : Room old after x k b
    pushing_room =
        let bit = filling_room p.filling h in
        let read = place_read x k b d (omega (arith, bit, e)) (omega (arith, bit, e)) (omega (arith, bit, e)) in
        let column = filled_column new (x - b) k c (filling_next d old n small p.filling h b e) p.eight h in
        let inside = arrangement.inside k h in
        record {
          taken = omega (arith, bit, e);
          binary = omega (arith, bit, e);
          place = omega arith;
          column_low = omega arith;
          column_high = omega (arith, p.long);
        }

    -- .. whose word takes the digit.
    pub pushing_next : (v : ℕ) → v ≡ pushed b (get_or after (c - 1) 0)
        → Pushing d old n held (set new k c) (x - b) (set after (c - 1) v) (k + 1)
    pushing_next v q = record {
      filling = filling_next d old n small p.filling h b e;
      eight = length-set new k c ∙ p.eight;
      long = length-set after (c - 1) v ∙ p.long;
      done = λ m l. at m l (ℕ_discrete m k);
      rest = λ m l i.
          get_or-set_other after (c - 1) (get_or S m 0) v 0 (λ o. apart m i (omega arith) (o ∙ column)) ∙ p.rest m (omega arith) i;
    }
      where
        S : List ℕ
        S = new_order d old n

        column : c - 1 ≡ get_or S k 0
        column = omega (arith, filled_column new (x - b) k c (filling_next d old n small p.filling h b e) p.eight h)

        apart : (m : ℕ) → m < d → (m ≡ k → ⊥) → get_or S m 0 ≡ get_or S k 0 → ⊥
        apart m i ne o = ne (place_once arrangement m k i h o)

        at : (m : ℕ) → m < k + 1 → Dec (m ≡ k)
            → get_or (set after (c - 1) v) (get_or S m 0) 0 ≡ pushed (get_or (bits_of d n) m 0) (get_or held (get_or S m 0) 0)
        at m l (yes o) =
            ap (λ i. get_or (set after (c - 1) v) (get_or S i 0) 0) o
            ∙ ap (λ i. get_or (set after (c - 1) v) i 0) (sym column)
            ∙ get_or-set_same after (c - 1) v 0 (omega (arith, pushing_room.column_high))
            ∙ q
            ∙ ap₂ pushed e (ap (λ i. get_or after i 0) column ∙ p.rest k (omega arith) h)
            ∙ ap (λ i. pushed (get_or (bits_of d n) i 0) (get_or held (get_or S i 0) 0)) (sym o)
        at m l (no o) =
            get_or-set_other after (c - 1) (get_or S m 0) v 0 (λ i. apart m (omega arith) o (i ∙ column)) ∙ p.done m (omega arith)

  pub pushing_end : {held new : List ℕ} {x : ℕ} {after : List ℕ} {k : ℕ} → Pushing d old n held new x after k → d ≤ k
      → Pushed d (new_order d old n) (bits_of d n) held after
  pushing_end p h = record { long = p.long; words = λ m l. p.done m (omega arith) }

-- ---- digits and signs

-- The last digit of the number is that of the last sign.
walked_last : (d : ℕ) (S : List ℕ) (f : ℕ → List ℕ) (n j : ℕ) → j < d
    → digit (get_or (signs_after d S f n) j (pos 0)) ≡ walked d S f n j % 2
unfolding walked signs_after start_signs digit
walked_last d S f zero j h = ap digit (get_or-replicate d j (pos 1) (pos 0) h)
walked_last d S f (suc n) j h = omega (arith, digit_small (get_or (signs_after d S f (suc n)) j (pos 0)))

units_after : (d : ℕ) (S : List ℕ) (f : ℕ → List ℕ) (n : ℕ) → Units d (signs_after d S f n)
unfolding signs_after start_signs step_signs
units_after d S f zero j h = inl (get_or-replicate d j (pos 1) (pos 0) h)
units_after d S f (suc n) j h = turn_units (signs_after d S f n) _ (f n) (length-signs_after d S f n) (units_after d S f n) j h

-- A sign that is turned has the other digit.
turned_digit : (b : ℕ) (s : ℤ) → IsUnit s → b < 2 → digit (turned b s) ≡ (digit s + b) % 2
unfolding digit
turned_digit zero s u h = omega (arith, digit_small s)
turned_digit (suc zero) s u h =
    ⊎_elim
    (λ e. ap (λ z. digit (neg_ℤ z)) e ∙ sym (ap (λ z. (digit z + 1) % 2) e))
    (λ e. ap (λ z. digit (neg_ℤ z)) e ∙ sym (ap (λ z. (digit z + 1) % 2) e))
    u
turned_digit (suc (suc b)) s u h = absurd (omega arith)

-- The last 64 digits of a number, and of the number with one digit more.
word_grown : (m b t : ℕ) → t ≡ (m % 2 + b) % 2 → pushed b (m % 2 ^ 64) ≡ (2 * m + t) % 2 ^ 64
unfolding pushed
word_grown m b t e =
    let last : (m % 2 ^ 64 + b) % 2 ≡ t = omega arith in
    ap (λ u. (2 * (m % 2 ^ 64) + u) % 2 ^ 64) last ∙ twice m t
  where
    twice : (i u : ℕ) → (2 * (i % 2 ^ 64) + u) % 2 ^ 64 ≡ (2 * i + u) % 2 ^ 64
    twice i u =
        let w = i % 2 ^ 64 in
        let a : 2 * w + u ≡ w + (w + u) = omega arith in
        let b : i + (w + u) ≡ w + (i + u) = omega arith in
        let c : i + (i + u) ≡ 2 * i + u = omega arith in
        ap (λ v. v % 2 ^ 64) a ∙ mod-add-mod i (2 ^ 64) (w + u) ∙ ap (λ v. v % 2 ^ 64) b ∙ mod-add-mod i (2 ^ 64) (i + u)
        ∙ ap (λ v. v % 2 ^ 64) c

-- A step's digits are those of the signs after it.
pub pushed_signs : (d : ℕ) (S : List ℕ) (f : ℕ → List ℕ) (n : ℕ) → ((s : ℕ) → length (f s) ≡ d)
    → ((s j : ℕ) → get_or (f s) j 0 < 2) → Arrangement d (order_after S f (suc n)) → (held more : List ℕ)
    → ((j : ℕ) → j < d → get_or held j 0 ≡ walked d S f n j % 2 ^ 64) → Pushed d (order_after S f (suc n)) (f n) held more
    → (j : ℕ) → j < d → get_or more j 0 ≡ walked d S f (suc n) j % 2 ^ 64
unfolding walked signs_after step_signs order_after
pushed_signs d S f n long bits a held more low p j h =
    let T = order_after S f (suc n) in
    let at = place_of a j h in
    let k = at.0 in
    let b = get_or (f n) k 0 in
    let s = get_or (signs_after d S f n) j (pos 0) in
    let turns : get_or (signs_after d S f (suc n)) j (pos 0) ≡ turned b s =
    ap (λ i. get_or (signs_after d S f (suc n)) i (pos 0)) (sym at.2)
    ∙ turn_at (signs_after d S f n) T (f n) k (a.long ∙ sym (long n)) (omega (arith, at.1, a.long))
    (a.once (get_or T k 0) (a.inside k at.1)) (omega (arith, length-signs_after d S f n, a.inside k at.1))
    ∙ ap (λ i. turned b (get_or (signs_after d S f n) i (pos 0))) at.2 in
    let last : digit (get_or (signs_after d S f (suc n)) j (pos 0)) ≡ (walked d S f n j % 2 + b) % 2 =
    ap digit turns ∙ turned_digit b s (units_after d S f n j h) (bits n k)
    ∙ ap (λ m. (m + b) % 2) (walked_last d S f n j h) in
    ap (λ i. get_or more i 0) (sym at.2) ∙ p.words k at.1
    ∙ ap (λ i. pushed b (get_or held i 0)) at.2
    ∙ ap (pushed b) (low j h)
    ∙ word_grown (walked d S f n j) b _ last
