-- A step of the difference run as one loop makes it: the new order, the new signs and the new registers, place by place.
-- Assumes nothing.
use Rattle.std.proofs.Common.{◌≡◌, ℕ, suc, pred, ◌+◌, ◌-◌, ◌%◌, ◌<◌, ◌≤◌, List, map, length, get_or, take, set, replicate, ℤ, pos, refl}
use Rattle.ladder.specs.Lists.{ones}
use Rattle.ladder.specs.Registers.{modulus, difference_add}
use Rattle.ladder.specs.Walk.{bits_of, step_walk}
use Rattle.ladder.proofs.Signs.{turned}
use Rattle.bits.specs.WalkBlock.{walk_block}
use Rattle.bits.proofs.Moving.{new_order, comes, Moving, new_columns, moving_start, moving_taken, moving_vector, moving_next, moving_end}
use Rattle.difference.specs.Inner.{DifferenceAdd, DifferenceStep, difference_of}
use Rattle.difference.proofs.NewRegisters.{Additions, Making, doubled_below, making_start, addition_asks, making_next, making_end}

-- After k places the order and the signs are those of `Moving`, and the registers those of `Making`; the walk was of dimension d, with these
-- places and signs.
pub record Stepping (m d : ℕ) (places : List ℕ) (before : List ℤ) (n : ℕ) (elements old : List ℕ)
    (v : List ℤ) (order : List ℕ) (signs : List ℤ) (new : List ℕ) (x k : ℕ) : Type 0 where
  pub asks : DifferenceStep m (record { d = d; order = places; signs = before }) elements old
  pub moving : Moving (record { d = d; order = places; signs = before }) n order signs x k
  pub making : Making m d before (new_order (record { d = d; order = places; signs = before }) n) n elements old new v x k

module _ {m d : ℕ} {places : List ℕ} {before : List ℤ} {elements old : List ℕ}
    (asks : DifferenceStep m (record { d = d; order = places; signs = before }) elements old) (n : ℕ) where
  additions : Additions m d before (new_order (record { d = d; order = places; signs = before }) n) elements old
  additions = record {
    d_high = asks.ready.high;
    units = asks.ready.signs;
    columns = new_columns asks.ready n;
    long = asks.long;
    below = asks.below;
    registers = asks.registers;
  }

  -- The register that is doubled is an element.
  pub doubled : (x : ℕ) → x ≡ ones (bits_of d n) → get_or old x 0 < modulus m
  doubled = doubled_below additions n

  pub stepping_start : (x : ℕ) → x ≡ ones (bits_of d n) → (a : ℕ) → a ≡ (get_or old x 0 + get_or old x 0) % modulus m
      → Stepping m d places before n elements old (replicate 8 (pos 0)) (replicate 8 0) (replicate 8 (pos 0))
      (set (replicate 9 0) 0 a) x 0
  stepping_start x e a f = record {
    asks = asks;
    moving = moving_start asks.ready n x e;
    making = making_start additions n x e (replicate 8 (pos 0)) refl a f _ refl refl;
  }

module _ {m d n : ℕ} {places : List ℕ} {before : List ℤ} {elements old : List ℕ}
    {v : List ℤ} {order : List ℕ} {signs : List ℤ} {new : List ℕ} {x k : ℕ}
    (s : Stepping m d places before n elements old v order signs new x k) where
  module _ (h : k < d) (b : ℕ) (e : b ≡ get_or (bits_of d n) k 0) where
    taken : x ≡ get_or (bits_of d n) k 0 + (x - b)
    taken = moving_taken s.asks.ready n s.moving h b e

    module _ (v' : List ℤ) (p : v' ≡ set v (comes places x k b - 1) (get_or before (comes places x k b - 1) (pos 0))) where
      -- What the addition asks.
      pub stepping_asks : DifferenceAdd (get_or old (x - b) 0) (take d v') elements m
      stepping_asks = addition_asks (additions s.asks n) n s.making h (x - b) taken v' (moving_vector s.asks.ready n s.moving h b e v v' p)

      -- One place more.
      pub stepping_next : (i : ℕ) → b ≡ i → (t : ℤ) → t ≡ turned i (get_or before (comes places x k b - 1) (pos 0))
          → (a : ℕ) → a ≡ difference_add m elements (get_or old (x - b) 0) (take d v')
          → Stepping m d places before n elements old v' (set order k (comes places x k b)) (set signs (comes places x k b - 1) t)
          (set new (k + 1) a) (x - b) (k + 1)
      stepping_next i f t q a o = record {
        asks = s.asks;
        moving = moving_next s.asks.ready n s.moving h b e i f t q;
        making = making_next (additions s.asks n) n s.making h (x - b) taken v' (moving_vector s.asks.ready n s.moving h b e v v' p) a o;
      }

  -- After the last the arrays are those of the walk's step, and the registers those of its entries.
  pub stepping_end : d ≤ k → length before ≡ 8
      → (record { d = d; order = order; signs = signs } ≡ step_walk (record { d = d; order = places; signs = before }) n)
      × (take (suc d) new
      ≡ map (difference_of m elements old)
      (walk_block d (take d before) (map pred (take d order)) (bits_of d n)))
  stepping_end h long =
      let moved = moving_end s.asks.ready n s.moving h long in
      (moved.1, rw moved.0 (making_end (additions s.asks n) n s.making h))
