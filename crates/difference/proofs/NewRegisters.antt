-- The new registers of a step as a loop of the difference run makes them: behind those that are made, those of the additions that are left.
-- Assumes nothing.
use Rattle.std.proofs.Common.{◌≡◌, ℕ, suc, pred, ◌+◌, ◌-◌, ◌%◌, ◌<◌, ◌≤◌, List, [], ◌∷◌, ◌++◌, map, length, get_or, take, drop, set, replicate, ℤ, pos, sym, refl, ap, ◌∙◌, ap₂, inl, inr, append_assoc, append-nil, add-one, arith, length-set, length-take-le, get_or-set_other, get_or-take, get_or-set_same, take-suc-set}
use native.Mathlib.Decide.{ℕ_discrete}
use lib.ListN.{get_or-replicate}
use Rattle.ladder.specs.Lists.{ones}
use Rattle.ladder.specs.Matrix.{IsSmall, Units}
use Rattle.ladder.specs.Registers.{modulus, difference_add}
use Rattle.ladder.specs.Trace.{Entry}
use Rattle.ladder.specs.Walk.{bits_of}
use Rattle.bits.specs.Ready.{Columns}
use Rattle.bits.specs.WalkBlock.{walk_block}
use Rattle.bits.proofs.Additions.{entry_at, rest, more, rest_next, rest_none, block_rest}
use Rattle.bits.proofs.StepBits.{ones_left, ones_room, ones_inside}
use Rattle.bits.proofs.Turning.{column_at}
use Rattle.registers.specs.Inner.{Elements}
use Rattle.difference.specs.Inner.{DifferenceAdd, difference_of}
use Rattle.difference.proofs.Differences.{doubled_zeros}

-- What the additions rest on: the signs before the step, the order after it, and registers and elements that are elements.
pub record Additions (m d : ℕ) (signs : List ℤ) (order elements old : List ℕ) : Type 0 where
  pub d_high : d ≤ 8
  pub units : Units d signs
  pub columns : Columns d order
  pub long : length elements ≡ d
  pub below : Elements m d elements
  pub registers : Elements m (suc d) old

-- After k additions: the registers made, and behind them those of the additions that are left, are the step's registers.
pub record Making (m d : ℕ) (signs : List ℤ) (order : List ℕ) (n : ℕ) (elements old new : List ℕ) (v : List ℤ) (x k : ℕ) : Type 0 where
  pub within : k ≤ d
  pub left : x ≡ ones (drop k (bits_of d n))
  pub eight : length v ≡ 8
  pub small : (j : ℕ) → j < d → IsSmall (get_or v j (pos 0))
  pub nine : length new ≡ 9
  pub done : take (suc k) new ++ map (difference_of m elements old) (rest d signs order n v x k)
      ≡ map (difference_of m elements old) (walk_block d (take d signs) (map pred (take d order)) (bits_of d n))

module _ {m d : ℕ} {signs : List ℤ} {order elements old : List ℕ} (asks : Additions m d signs order elements old) (n : ℕ) where
  abbrev register : Entry → ℕ
  register = difference_of m elements old

  -- The register of an entry whose row x there is.
  register_at : (x y : ℕ) (v : List ℤ) → x ≤ d → register (entry_at d x y v) ≡ difference_add m elements (get_or old x 0) (take d v)
  unfolding difference_of
  register_at x y v h = refl

  -- The row that is doubled is a row, and its register an element.
  pub doubled_below : (x : ℕ) → x ≡ ones (bits_of d n) → get_or old x 0 < modulus m
  doubled_below x e = asks.registers x (omega (arith, ones_inside d n))

  pub making_start : (x : ℕ) → x ≡ ones (bits_of d n) → (v : List ℤ) → v ≡ replicate 8 (pos 0) → (a : ℕ)
      → a ≡ (get_or old x 0 + get_or old x 0) % modulus m → (new : List ℕ) → length new ≡ 9 → take 1 new ≡ a ∷ []
      → Making m d signs order n elements old new v x 0
  making_start x e v z a f new nine first = rw z record {
    within = omega arith;
    left = e;
    eight = refl;
    small = λ j h. inl (get_or-replicate 8 j (pos 0) (pos 0) (omega (arith, asks.d_high)));
    nine = nine;
    done =
        ap₂ (λ t y. t ++ map register (rest d signs order n (replicate 8 (pos 0)) y 0)) first e
        ∙ ap (λ b. b ∷ map register (rest d signs order n (replicate 8 (pos 0)) (ones (bits_of d n)) 0)) same
        ∙ sym (ap (map register) (block_rest d signs asks.columns n asks.d_high));
  }
    where
      h : ℕ
      h = ones (bits_of d n)

      same : a ≡ register (entry_at d (ones (bits_of d n)) (ones (bits_of d n)) (replicate 8 (pos 0)))
      same =
          f ∙ ap (λ y. (get_or old y 0 + get_or old y 0) % modulus m) e
          ∙ sym (register_at h h (replicate 8 (pos 0)) (ones_inside d n)
          ∙ doubled_zeros m elements (get_or old h 0) d 8 asks.d_high)

  module _ {new : List ℕ} {v : List ℤ} {x k : ℕ} (s : Making m d signs order n elements old new v x k) (h : k < d)
      (x' : ℕ) (e : x ≡ get_or (bits_of d n) k 0 + x') where
    -- The rows of the addition are rows.
    pub making_room : x' + (k + 1) ≤ d
    making_room = omega (arith, s.left, ones_left d n k h, ones_room d n (k + 1) (omega arith))

    -- Its vector is small again.
    more_small : (j : ℕ) → j < d → IsSmall (get_or (more d signs asks.columns n v k) j (pos 0))
    more_small j l = go (ℕ_discrete j i)
      where
        i : ℕ
        i = get_or order k 0 - 1

        inside : get_or order k 0 - 1 < d
        inside = omega (arith, column_at asks.columns k h)

        go : Dec (j ≡ get_or order k 0 - 1) → IsSmall (get_or (set v (get_or order k 0 - 1) (get_or signs (get_or order k 0 - 1) (pos 0))) j (pos 0))
        go (yes q) =
            rw (q, get_or-set_same v i (get_or signs i (pos 0)) (pos 0) (omega (arith, s.eight, asks.d_high, inside)))
            (inr (asks.units i inside))
        go (no q) = rw (get_or-set_other v i j (get_or signs i (pos 0)) (pos 0) q) (s.small j l)

    -- What the addition asks.
    pub addition_asks : (v' : List ℤ) → v' ≡ more d signs asks.columns n v k → DifferenceAdd (get_or old x' 0) (take d v') elements m
    addition_asks v' q = record {
      few = omega (arith, asks.long, asks.d_high);
      register = asks.registers x' (omega (arith, making_room));
      below = λ i l. asks.below i (omega (arith, asks.long));
      wide =
          let eight : length v' ≡ 8 = ap length q ∙ length-set v (get_or order k 0 - 1) _ ∙ s.eight in
          length-take-le d v' (omega (arith, asks.d_high)) ∙ sym asks.long;
      small = λ j l. rw (get_or-take d v' j (pos 0) (omega (arith, asks.long)), q) (more_small j (omega (arith, asks.long)));
    }

    making_more : (b : ℕ) → b ≡ difference_add m elements (get_or old x' 0) (take d (more d signs asks.columns n v k))
        → Making m d signs order n elements old (set new (k + 1) b) (more d signs asks.columns n v k) x' (k + 1)
    making_more b w =
        let u = more d signs asks.columns n v k in
        let made : b ≡ register (entry_at d x' (x' + suc k) u) =
        w
        ∙ sym (register_at x' (x' + suc k) u (omega (arith, making_room))) in
        let later = map register (rest d signs order n u x' (suc k)) in
        record {
          within = omega arith;
          left = omega (arith, s.left, ones_left d n k h);
          eight = length-set v (get_or order k 0 - 1) _ ∙ s.eight;
          small = more_small;
          nine = length-set new (k + 1) b ∙ s.nine;
          done =
              rw (add-one k)
              (ap (λ t. t ++ later) (take-suc-set new (suc k) b (omega (arith, s.nine, asks.d_high)))
              ∙ append_assoc (take (suc k) new) (b ∷ []) later
              ∙ ap (λ c. take (suc k) new ++ (c ∷ later)) made
              ∙ sym (ap (λ es. take (suc k) new ++ map register es) (rest_next d signs asks.columns n v x x' k h e))
              ∙ s.done);
        }

    -- One addition more, whose vector is v'.
    pub making_next : (v' : List ℤ) → v' ≡ more d signs asks.columns n v k
        → (b : ℕ) → b ≡ difference_add m elements (get_or old x' 0) (take d v')
        → Making m d signs order n elements old (set new (k + 1) b) v' x' (k + 1)
    making_next v' q b w =
        rw q (making_more b (w ∙ ap (λ u. difference_add m elements (get_or old x' 0) (take d u)) q))

  -- No addition left.
  pub making_end : {new : List ℕ} {v : List ℤ} {x k : ℕ} → Making m d signs order n elements old new v x k → d ≤ k
      → take (suc d) new ≡ map (difference_of m elements old) (walk_block d (take d signs) (map pred (take d order)) (bits_of d n))
  making_end {new} {v} {x} {k} s h =
      let all : d ≡ k = omega (arith, s.within) in
      ap (λ i. take (suc i) new) all
      ∙ sym (append-nil (take (suc k) new))
      ∙ sym (ap (λ es. take (suc k) new ++ map register es) (rest_none d signs asks.columns n v x k h))
      ∙ s.done
