-- The registers of the plain run as loops make them: a step's, one by one, and those of all steps, step by step.
-- Assumes nothing.
use Prim.Native.Nat.{ℕ, zero, suc, ◌+◌, ◌-◌, ◌*◌, ◌%◌, ◌≤◌, ◌<◌}
use mathlib.Core.Path.{◌≡◌, refl, sym, ap, ap₂, subst, ◌∙◌}
use mathlib.Core.List.{List, [], ◌∷◌, ◌++◌, map, append-nil}
use native.Mathlib.Nat.{add-zero}
use native.Mathlib.Numerals.{add-one}
use native.Mathlib.Omega.{arith}
use lib.ListN.{length, get_or, take, drop, set, length-set, length-map}
use lib.Seq.{append_snoc, take_all, take-suc-set}
use Rattle.registers.proofs.ByModulus.{modulus_positive, below_modulus}
use Rattle.ladder.specs.Lists.{ones}
use Rattle.ladder.specs.Matrix.{Pair, Matrix, matrix_after, pairs_from, additions}
use Rattle.ladder.specs.Numbers.{bits_at}
use Rattle.ladder.specs.Registers.{modulus, plain_rule, step_registers, registers_after}
use Rattle.ladder.specs.Trace.{operations}
use Rattle.ladder.specs.Walk.{bits_of}
use Rattle.ladder.proofs.Bits.{bits_room}
use Rattle.ladder.proofs.Step.{length-additions}
use Rattle.ladder.proofs.Walk.{length-bits_of}
use Rattle.bits.specs.ReadBits.{ReadBits}
use Rattle.bits.proofs.Additions.{pairs_next}
use Rattle.bits.proofs.StepBits.{bit_below, bits_left, no_bits_left, ones_left, ones_room, ones_inside}
use Rattle.plain.specs.Inner.{PlainStep, PlainSteps, plain_sum}

-- ---- one step

-- After k bits: the registers made, and behind them those of the additions that are left, are the step's registers.
pub record Summing (m d n : ℕ) (old new : List ℕ) (x k : ℕ) : Type 0 where
  pub within : k ≤ d
  pub left : x ≡ ones (drop k (bits_of d n))
  pub rows : length new ≡ suc d
  pub done : take (suc k) new ++ map (plain_sum m old) (pairs_from x (x + k) (drop k (bits_of d n)))
      ≡ map (plain_sum m old) (operations (bits_of d n))

module _ {m d : ℕ} {old : List ℕ} (asks : PlainStep m d old) (n : ℕ) where
  abbrev made : Pair → ℕ
  made = plain_sum m old

  -- The sum of two old registers that there are.
  made_at : (x y : ℕ) → x ≤ d → y ≤ d → made (record { x = x; y = y }) ≡ (get_or old x 0 + get_or old y 0) % modulus m
  unfolding plain_sum
  made_at x y h k = refl

  -- The row that is doubled is a row, and its register an element.
  pub doubled_below : (x : ℕ) → x ≡ ones (bits_of d n) → get_or old x 0 < modulus m
  doubled_below x e = asks.below x (omega (arith, ones_inside d n))

  pub summing_start : (before : List ℕ) → length before ≡ suc d → (x : ℕ) → x ≡ ones (bits_of d n)
      → (a : ℕ) → a ≡ (get_or old x 0 + get_or old x 0) % modulus m → Summing m d n old (set before 0 a) x 0
  unfolding operations additions
  summing_start before rows x e a f =
      let h : x ≤ d = omega (arith, ones_inside d n) in
      record {
        within = omega arith;
        left = e;
        rows = length-set before 0 a ∙ rows;
        done =
            ap (λ t. t ++ map made (pairs_from x (x + 0) (bits_of d n))) (take-suc-set before 0 a (omega arith))
            ∙ ap (λ b. b ∷ map made (pairs_from x (x + 0) (bits_of d n))) (f ∙ sym (made_at x x h h))
            ∙ ap₂ (λ i j. made (record { x = i; y = i }) ∷ map made (pairs_from i j (bits_of d n))) e (add-zero x ∙ e);
      }

  module _ {new : List ℕ} {x k : ℕ} (s : Summing m d n old new x k) (h : k < d) where
    -- Bit k is among the ones that are left ..
    pub summing_left : get_or (bits_of d n) k 0 ≤ x
    summing_left = let left = ones_left d n k h in omega (arith, s.left)

    -- .. and row y stays inside.
    pub summing_inside : x + k < d + get_or (bits_of d n) k 0
    summing_inside =
        let left = ones_left d n k h in
        let room = ones_room d n (k + 1) (omega arith) in
        omega (arith, s.left)

    -- One addition more.
    pub summing_next : (x' : ℕ) → x ≡ get_or (bits_of d n) k 0 + x'
        → (a : ℕ) → a ≡ (get_or old x' 0 + get_or old (x' + k + 1) 0) % modulus m
        → Summing m d n old (set new (k + 1) a) x' (k + 1)
    summing_next x' e a f =
        let b = get_or (bits_of d n) k 0 in
        let later = pairs_from x' (x' + suc k) (drop (suc k) (bits_of d n)) in
        let sum : a ≡ made (record { x = x'; y = x' + suc k }) =
        f ∙ ap (λ i. (get_or old x' 0 + get_or old i 0) % modulus m) (let y : x' + k + 1 ≡ x' + suc k = omega arith in y)
        ∙ sym (made_at x' (x' + suc k) (omega (arith, summing_inside)) (omega (arith, summing_inside))) in
        record {
          within = omega arith;
          left = omega (arith, s.left, ones_left d n k h);
          rows = length-set new (k + 1) a ∙ s.rows;
          done =
              rw (add-one k)
              (ap (λ t. t ++ map made later) (take-suc-set new (suc k) a (omega (arith, s.rows)))
              ∙ append_snoc (take (suc k) new) a (map made later)
              ∙ ap (λ c. take (suc k) new ++ (c ∷ map made later)) sum
              ∙ sym (ap (λ ps. take (suc k) new ++ map made ps)
              (ap (pairs_from x (x + k)) (bits_left d n k h)
              ∙ pairs_next b x x' k (drop (suc k) (bits_of d n)) (bit_below d n k) e))
              ∙ s.done);
        }

  -- No addition left.
  pub summing_end : {new : List ℕ} {x k : ℕ} → Summing m d n old new x k → d ≤ k
      → new ≡ map (plain_sum m old) (operations (bits_of d n))
  unfolding pairs_from
  summing_end {new} {x} {k} s h =
      sym (take_all (suc k) new (omega (arith, s.rows, s.within)))
      ∙ sym (append-nil (take (suc k) new))
      ∙ sym (ap (λ r. take (suc k) new ++ map made (pairs_from x (x + k) r)) (no_bits_left d n k h))
      ∙ s.done

-- What the goals of a step need.
pub ruleset summing = (ones_inside, doubled_below, summing_left, summing_inside, summing_end)

-- The sums of a step's operations are its registers, whatever the matrix.
pub sums_are_registers : (m d : ℕ) (B : Matrix) (regs r : List ℕ)
    → map (plain_sum m regs) (operations r) ≡ step_registers (plain_rule m) d B regs r
unfolding plain_sum operations step_registers plain_rule
sums_are_registers m d B regs r = refl

-- Each is an element.
sums_below : (m : ℕ) (regs : List ℕ) (pairs : List Pair) (i : ℕ) → get_or (map (plain_sum m regs) pairs) i 0 < modulus m
unfolding plain_sum
sums_below m regs [] i = modulus_positive m
sums_below m regs (p ∷ pairs) zero = below_modulus m _
sums_below m regs (p ∷ pairs) (suc i) = sums_below m regs pairs i

-- ---- all steps

-- After s steps, from any start order.
pub record PlainRunning (m d l : ℕ) (bytes start regs : List ℕ) (s : ℕ) : Type 0 where
  pub within : s ≤ l
  pub step : PlainStep m d regs
  pub done : (S : List ℕ) → regs ≡ registers_after (plain_rule m) d S (bits_at d bytes) start s

pub running_start : {m d l : ℕ} {bytes start : List ℕ} → PlainSteps m d l bytes start → PlainRunning m d l bytes start start 0
unfolding registers_after
running_start asks = record { within = omega arith; step = asks.step; done = λ S. refl }

-- The bits of a step are there.
pub bits_there : {m d l : ℕ} {bytes start : List ℕ} → PlainSteps m d l bytes start → (s : ℕ) → s < l
    → (d ≤ 8) × ((s < 576) × (s * d + d ≤ 8 * length bytes))
bits_there {m} {d} {l} {bytes} asks s h =
    (asks.step.d_high, (omega (arith, asks.l_high), bits_room d l s (length bytes) h asks.bits))

-- A step's registers can be stepped again.
pub stepped : {m d : ℕ} {regs : List ℕ} → PlainStep m d regs → (n : ℕ) (next : List ℕ)
    → next ≡ map (plain_sum m regs) (operations (bits_of d n)) → PlainStep m d next
unfolding operations additions
stepped {m} {d} {regs} asks n next made = rw made record {
  d_high = asks.d_high;
  rows = length-map (operations (bits_of d n)) (plain_sum m regs) ∙ ap suc (length-additions (bits_of d n) ∙ length-bits_of d n);
  below = λ i h. sums_below m regs (operations (bits_of d n)) i;
}

-- One step more.
pub running_next : {m d l : ℕ} {bytes start regs : List ℕ} {s : ℕ} → PlainRunning m d l bytes start regs s → s < l
    → (n : ℕ) → ReadBits d s bytes n
    → (next : List ℕ) → next ≡ map (plain_sum m regs) (operations (bits_of d n)) → PlainRunning m d l bytes start next (s + 1)
unfolding registers_after
running_next {m} {d} {l} {bytes} {start} {regs} {s} t h n read next made = rw add-one record {
  within = h;
  step = stepped t.step n next made;
  done = λ S.
      made ∙ ap (λ b. map (plain_sum m regs) (operations b)) read.bits
      ∙ sums_are_registers m d (matrix_after d S (bits_at d bytes) s) regs (bits_at d bytes s)
      ∙ ap (λ q. step_registers (plain_rule m) d (matrix_after d S (bits_at d bytes) s) q (bits_at d bytes s)) (t.done S);
}

-- Two steps more.
pub running_pair : {m d l : ℕ} {bytes start regs : List ℕ} {s : ℕ} → PlainRunning m d l bytes start regs s → s + 1 < l
    → {n k : ℕ} → ReadBits d s bytes n → ReadBits d (s + 1) bytes k
    → {half next : List ℕ} → half ≡ map (plain_sum m regs) (operations (bits_of d n))
    → next ≡ map (plain_sum m half) (operations (bits_of d k))
    → (t : ℕ) → t ≡ s + 2 → PlainRunning m d l bytes start next t
running_pair {m} {d} {l} {bytes} {start} {regs} {s} r h first second made more t e =
    let two : s + 1 + 1 ≡ t = omega arith in
    subst (PlainRunning m d l bytes start _) two
    (running_next (running_next r (omega arith) _ first _ made) h _ second _ more)

-- After the last.
pub running_end : {m d l : ℕ} {bytes start regs : List ℕ} {s : ℕ} → PlainRunning m d l bytes start regs s → l ≤ s
    → (S : List ℕ) → regs ≡ registers_after (plain_rule m) d S (bits_at d bytes) start l
running_end {m} {d} {l} {bytes} {start} {regs} {s} t h S =
    let over : s ≡ l = omega (arith, t.within) in
    t.done S ∙ ap (registers_after (plain_rule m) d S (bits_at d bytes) start) over

-- After a last single step.
pub running_last : {m d l : ℕ} {bytes start regs : List ℕ} {s : ℕ} → PlainRunning m d l bytes start regs s → l ≡ s + 1
    → (i : ℕ) → i ≡ s → {n : ℕ} → ReadBits d i bytes n → {next : List ℕ} → next ≡ map (plain_sum m regs) (operations (bits_of d n))
    → (S : List ℕ) → next ≡ registers_after (plain_rule m) d S (bits_at d bytes) start l
running_last {m} {d} {l} {bytes} {start} {regs} {s} r e i here {n} read made =
    running_end (running_next r (omega arith) n (subst (λ i. ReadBits d i bytes n) here read) _ made) (omega arith)
