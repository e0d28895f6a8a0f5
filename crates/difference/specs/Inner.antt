-- What the inner contracts of the difference run need: no promise rests on it.
-- Assumes nothing.
use Rattle.std.specs.Prelude.{◌≡◌, ℕ, suc, pred, ◌<◌, ◌≤◌, List, map, length, ℤ, pos, slice_index, slice_index_or}
use Rattle.ladder.specs.Matrix.{IsSmall, OrderOk, start_signs}
use Rattle.ladder.specs.Numbers.{bits_length}
use Rattle.ladder.specs.Registers.{modulus, difference_add}
use Rattle.ladder.specs.Trace.{Entry}
use Rattle.ladder.specs.Walk.{Walk, walk_of, order_of}
use Rattle.bits.specs.Ready.{Ready}
use Rattle.registers.specs.Inner.{Elements}

-- What an addition asks: a register and elements that are elements, and a vector of -1, 0 and 1.
pub record DifferenceAdd (x : ℕ) (vector : List ℤ) (elements : List ℕ) (m : ℕ) : Type 0 where
  pub few : length elements ≤ 8
  pub register : x < modulus m
  pub below : Elements m (length elements) elements
  pub wide : length vector ≡ length elements
  pub small : (j : ℕ) → j < length elements → IsSmall (slice_index_or vector j (pos 0))

-- The register that an entry makes of the old ones. A doubling's vector is 0, so that it is twice the register.
unfoldable pub difference_of : ℕ → List ℕ → List ℕ → Entry → ℕ
difference_of m elements old e = difference_add m elements (slice_index old e.x) e.vector

-- What a step asks: a walk that can be stepped, and d + 1 registers and d elements that are elements.
pub record DifferenceStep (m : ℕ) (w : Walk) (elements old : List ℕ) : Type 0 where
  pub ready : Ready w
  pub long : length elements ≡ w.d
  pub below : Elements m w.d elements
  pub rows : length old ≡ suc w.d
  pub registers : Elements m (suc w.d) old

-- What all steps ask: a walk at its start.
pub record DifferenceSteps (m : ℕ) (w : Walk) (l : ℕ) (bytes elements start : List ℕ) : Type 0 where
  pub ready : Ready w
  pub begun : w ≡ walk_of w.d (order_of w) (start_signs w.d)
  pub l_high : l ≤ 576
  pub bits : length bytes ≡ bits_length w.d l
  pub long : length elements ≡ w.d
  pub below : Elements m w.d elements
  pub registers : Elements m (suc w.d) start

-- The same from the start of a plan's walk.
pub record FromStart (m d l : ℕ) (start bytes elements first : List ℕ) : Type 0 where
  pub d_high : d ≤ 8
  pub order : OrderOk d start
  pub steps : DifferenceSteps m (walk_of d (map pred start) (start_signs d)) l bytes elements first
