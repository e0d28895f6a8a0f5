-- The new signs as a loop fills them, column by column in the new order.
-- Assumes nothing.
use Prim.Native.Nat.{ℕ, pred, ◌+◌, ◌-◌, ◌≤◌, ◌<◌}
use mathlib.Core.Path.{◌≡◌, refl, sym, ap, ap₂, subst, ◌∙◌}
use mathlib.Core.List.{List, ◌++◌, map}
use native.Mathlib.Decide.{ℕ_discrete, dec_lt}
use native.Mathlib.Omega.{arith}
use lib.IntN.{ℤ, pos}
use lib.ListN.{length, get_or, take, set, replicate, length-append, length-set, length-replicate, get_or-replicate, get_or-append, get_or-eq_default}
use lib.Seq.{length-take-le, get_or-take, get_or-append-add, get_or-set_same, get_or-set_other, ext_get_or}
use Rattle.ladder.proofs.Tests.{order_at}
use Rattle.ladder.specs.Matrix.{turn, IsUnit, Units}
use Rattle.ladder.specs.Walk.{bits_of}
use Rattle.ladder.proofs.Order.{place_of, place_once}
use Rattle.ladder.proofs.Signs.{turned, turn_at, length-turn}
use Rattle.bits.specs.Ready.{Columns}
use Rattle.bits.proofs.SmallSigns.{unit_fits}
use Rattle.ladder.proofs.Walk.{length-bits_of}

-- The column at place k, counted from 0.
abbrev pub column : ℕ → List ℕ → ℕ → ℕ
column d order k = get_or (map pred (take d order)) k 0

-- A place holds a column from 1 to d.
pub column_at : {d : ℕ} {order : List ℕ} → Columns d order → (k : ℕ) → k < d
    → (1 ≤ get_or order k 0) × (get_or order k 0 - 1 ≡ column d order k) × (column d order k < d)
column_at {d} {order} a k h =
    let at = order_at (take d order) (record { columns = a.columns; counted = a.counted }) k h in
    let same = get_or-take d order k 0 h in
    (omega (arith, at), omega (arith, at), at.2)

-- Its sign is 1 or -1.
pub unit_at : {d : ℕ} {order : List ℕ} → Columns d order → (signs : List ℤ) → Units d signs → (k : ℕ) → k < d
    → IsUnit (get_or signs (get_or order k 0 - 1) (pos 0))
unit_at a signs u k h = u _ (omega (arith, column_at a k h))

-- After k places: the columns at them have their signs, and past d all is 0.
pub record Turning (d : ℕ) (signs : List ℤ) (order : List ℕ) (n : ℕ) (new : List ℤ) (k : ℕ) : Type 0 where
  pub within : k ≤ d
  pub eight : length new ≡ 8
  pub filled : (m : ℕ) → m < k
      → get_or new (column d order m) (pos 0) ≡ turned (get_or (bits_of d n) m 0) (get_or signs (column d order m) (pos 0))
  pub rest : (j : ℕ) → d ≤ j → get_or new j (pos 0) ≡ pos 0

module _ {d : ℕ} {order : List ℕ} (small : d ≤ 8) (a : Columns d order) (signs : List ℤ) (n : ℕ) where
  pub turning_start : Turning d signs order n (replicate 8 (pos 0)) 0
  turning_start = record {
    within = omega arith;
    eight = refl;
    filled = λ m h. absurd (omega arith);
    rest = λ j h. zeros j (dec_lt j 8);
  }
    where
      zeros : (j : ℕ) → Dec (j < 8) → get_or (replicate 8 (pos 0)) j (pos 0) ≡ pos 0
      zeros j (yes h) = get_or-replicate 8 j (pos 0) (pos 0) h
      zeros j (no h) = get_or-eq_default (replicate 8 (pos 0)) (pos 0) {n = j} (omega arith)

  -- The column at place k gets its sign, turned where the bit is 1.
  pub turning_next : {new : List ℤ} {k : ℕ} → Turning d signs order n new k → k < d → (b : ℕ) → get_or (bits_of d n) k 0 ≡ b → (s : ℤ)
      → s ≡ turned b (get_or signs (get_or order k 0 - 1) (pos 0))
      → Turning d signs order n (set new (get_or order k 0 - 1) s) (k + 1)
  turning_next {new} {k} t h b p s q = rw (column_at a k h).1 record {
    within = omega arith;
    eight = length-set new j s ∙ t.eight;
    filled = λ m l. at m l (ℕ_discrete m k);
    rest = λ i l. get_or-set_other new j i s (pos 0) (omega (arith, a.columns.inside k h)) ∙ t.rest i l;
  }
    where
      j : ℕ
      j = column d order k

      e : s ≡ turned (get_or (bits_of d n) k 0) (get_or signs j (pos 0))
      e = q ∙ ap₂ turned (sym p) (ap (λ i. get_or signs i (pos 0)) (column_at a k h).1)

      at : (m : ℕ) → m < k + 1 → Dec (m ≡ k)
          → get_or (set new j s) (column d order m) (pos 0) ≡ turned (get_or (bits_of d n) m 0) (get_or signs (column d order m) (pos 0))
      at m l (yes o) =
          rw o (get_or-set_same new j s (pos 0) (omega (arith, t.eight, a.columns.inside k h)) ∙ e)
      at m l (no o) =
          get_or-set_other new j (column d order m) s (pos 0) (λ e. o (place_once a.columns m k (omega arith) h e))
          ∙ t.filled m (omega arith)

  -- All places filled, the signs are those that the step gives.
  pub turning_end : {new : List ℤ} {k : ℕ} → length signs ≡ 8 → Turning d signs order n new k → d ≤ k
      → new ≡ turn (take d signs) (map pred (take d order)) (bits_of d n) ++ replicate (8 - d) (pos 0)
  turning_end {new} {k} long t h =
      ext_get_or (pos 0) new (after ++ replicate (8 - d) (pos 0))
      (t.eight ∙ sym (length-append after (replicate (8 - d) (pos 0)) ∙ omega (arith, length-replicate (8 - d) (pos 0), many)))
      (λ i l. at i (dec_lt i d))
    where
      S : List ℕ
      S = map pred (take d order)

      after : List ℤ
      after = turn (take d signs) S (bits_of d n)

      signs_long : length (take d signs) ≡ d
      signs_long = length-take-le d signs (omega arith)

      many : length after ≡ d
      many = length-turn (take d signs) S (bits_of d n) ∙ signs_long

      placed : (m : ℕ) → m < d → get_or new (column d order m) (pos 0) ≡ get_or after (column d order m) (pos 0)
      placed m b =
          t.filled m (omega arith)
          ∙ ap (turned (get_or (bits_of d n) m 0)) (sym (get_or-take d signs (column d order m) (pos 0) (a.columns.inside m b)))
          ∙ sym (turn_at (take d signs) S (bits_of d n) m (a.columns.long ∙ sym (length-bits_of d n)) (omega (arith, a.columns.long))
          (a.columns.once (column d order m) (a.columns.inside m b)) (omega (arith, signs_long, a.columns.inside m b)))

      at : (i : ℕ) → Dec (i < d) → get_or new i (pos 0) ≡ get_or (after ++ replicate (8 - d) (pos 0)) i (pos 0)
      at i (yes l) =
          let p = place_of a.columns i l in
          subst (λ c. get_or new c (pos 0) ≡ get_or after c (pos 0)) p.2 (placed p.0 p.1)
          ∙ sym (get_or-append after (replicate (8 - d) (pos 0)) (pos 0) i (omega (arith, many)))
      at i (no l) =
          let q : i ≡ length after + (i - d) = omega (arith, many) in
          t.rest i (omega arith)
          ∙ sym (ap (λ c. get_or (after ++ replicate (8 - d) (pos 0)) c (pos 0)) q
          ∙ get_or-append-add after (replicate (8 - d) (pos 0)) (i - d) (pos 0) ∙ zeros (i - d) (dec_lt (i - d) (8 - d)))
        where
          zeros : (c : ℕ) → Dec (c < 8 - d) → get_or (replicate (8 - d) (pos 0)) c (pos 0) ≡ pos 0
          zeros c (yes b) = get_or-replicate (8 - d) c (pos 0) (pos 0) b
          zeros c (no b) = get_or-eq_default (replicate (8 - d) (pos 0)) (pos 0) {n = c} (omega (arith, length-replicate (8 - d) (pos 0)))

-- What a loop that turns signs asks of these laws.
pub ruleset turning = (column_at, unit_fits, turning_start, turning_end)
