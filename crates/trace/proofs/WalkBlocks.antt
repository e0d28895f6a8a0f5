-- The blocks of a walk's trace: each is one doubling and d additions.
-- Assumes nothing.
use Prim.Native.Nat.{ℕ, zero, suc, pred, ◌+◌, ◌*◌, ◌^◌, ◌<◌}
use mathlib.Core.Path.{◌≡◌, refl, sym, ap, subst, ◌∙◌}
use mathlib.Core.List.{List, [], ◌∷◌, ◌++◌, map}
use native.Mathlib.Nat.{zero-mul, suc-mul}
use native.Mathlib.Omega.{arith}
use lib.IntN.{ℤ, pos}
use lib.ListN.{length, get_or, set, take, replicate}
use Rattle.ladder.specs.Numbers.{bits_at}
use Rattle.ladder.specs.Matrix.{Pair, additions, step_order, step_signs}
use Rattle.ladder.specs.Trace.{Entry, operations, entry_of, block, doublings, addition_count}
use Rattle.ladder.specs.Walk.{Walk, bits_of, walk_of, order_of, walk_signs, step_walk}
use Rattle.ladder.proofs.Step.{length-step_order, length-additions}
use Rattle.ladder.proofs.Numbers.{tabulate_below}
use Rattle.ladder.proofs.Bits.{bit_at_below, length-bits_at}
use Rattle.ladder.proofs.Trace.{doublings-append, addition_count-append, block-doublings, block-additions}
use Rattle.ladder.proofs.Walk.{number_of_bits, number_of_bits_below, bits_of_number_of_bits, order_of_walk, length-bits_of}
use Rattle.bits.specs.Ready.{Ready}
use Rattle.bits.specs.ReadBits.{ReadBits}
use Rattle.bits.specs.WalkBlock.{filled, walk_block}
use Rattle.bits.proofs.Stepping.{ready_step}
use Rattle.trace.specs.Inner.{walk_entries}

-- ---- one block

-- Counts go by the rows alone.
filled-doublings : (d : ℕ) (v signs : List ℤ) (S : List ℕ) (ps : List Pair) → length S ≡ length ps
    → doublings (filled v signs S ps) ≡ doublings (map (entry_of d []) ps)
unfolding filled doublings entry_of
filled-doublings d v signs [] [] e = refl
filled-doublings d v signs [] (p ∷ ps) e = absurd (omega arith)
filled-doublings d v signs (j ∷ S) [] e = absurd (omega arith)
filled-doublings d v signs (j ∷ S) (p ∷ ps) e = omega (arith, filled-doublings d (set v j (get_or signs j (pos 0))) signs S ps (omega arith))

filled-additions : (d : ℕ) (v signs : List ℤ) (S : List ℕ) (ps : List Pair) → length S ≡ length ps
    → addition_count (filled v signs S ps) ≡ addition_count (map (entry_of d []) ps)
unfolding filled addition_count entry_of
filled-additions d v signs [] [] e = refl
filled-additions d v signs [] (p ∷ ps) e = absurd (omega arith)
filled-additions d v signs (j ∷ S) [] e = absurd (omega arith)
filled-additions d v signs (j ∷ S) (p ∷ ps) e = omega (arith, filled-additions d (set v j (get_or signs j (pos 0))) signs S ps (omega arith))

module _ (d : ℕ) (signs : List ℤ) (S r : List ℕ) (e : length S ≡ length r) where
  one_doubling : doublings (walk_block d signs S r) ≡ 1
  unfolding walk_block doublings block operations entry_of
  one_doubling =
      omega (arith, filled-doublings d (replicate d (pos 0)) signs S (additions r) (e ∙ sym (length-additions r)), block-doublings d [] r)

  many_additions : addition_count (walk_block d signs S r) ≡ length r
  unfolding walk_block addition_count block operations entry_of
  many_additions =
      omega (arith, filled-additions d (replicate d (pos 0)) signs S (additions r) (e ∙ sym (length-additions r)), block-additions d [] r)

-- ---- the block of a walk's step

-- A step's block, by the walk before it.
abbrev pub block_of : Walk → ℕ → List Entry
block_of w n = walk_block w.d (walk_signs w) (step_order (order_of w) (bits_of w.d n)) (bits_of w.d n)

module _ {w : Walk} (ready : Ready w) (n : ℕ) where
  places : length (step_order (order_of w) (bits_of w.d n)) ≡ w.d
  places = length-step_order (order_of w) (bits_of w.d n) ∙ length-bits_of w.d n

  -- The arrays before and after the step hold what the block is made of.
  pub block_of_arrays : walk_block w.d (take w.d w.signs) (map pred (take w.d (step_walk w n).order)) (bits_of w.d n) ≡ block_of w n
  unfolding step_walk walk_signs
  block_of_arrays =
      ap (λ S. walk_block w.d (walk_signs w) S (bits_of w.d n))
      (unfold order_of walk_of in
      order_of_walk w.d (step_order (order_of w) (bits_of w.d n)) (step_signs (walk_signs w) (order_of w) (bits_of w.d n)) places)

  pub block_of_doublings : doublings (block_of w n) ≡ 1
  block_of_doublings = one_doubling w.d (walk_signs w) _ (bits_of w.d n) (places ∙ sym (length-bits_of w.d n))

  pub block_of_additions : addition_count (block_of w n) ≡ w.d
  block_of_additions =
      many_additions w.d (walk_signs w) _ (bits_of w.d n) (places ∙ sym (length-bits_of w.d n)) ∙ length-bits_of w.d n

-- ---- many steps

-- The entries from a step on are its block and the entries of the walk after it.
pub entries_next : (w : Walk) (bytes : List ℕ) (s m n : ℕ) → ReadBits w.d s bytes n
    → walk_entries w bytes s (suc m) ≡ block_of w n ++ walk_entries (step_walk w n) bytes (suc s) m
unfolding walk_entries step_walk
entries_next w bytes s m n r =
    ap (λ b. walk_block w.d (walk_signs w) (step_order (order_of w) b) b
    ++ walk_entries (walk_of w.d (step_order (order_of w) b) (step_signs (walk_signs w) (order_of w) b)) bytes (suc s) m)
    (sym r.bits)

-- The bits of a step are those of a number.
bits_number : (d : ℕ) (bytes : List ℕ) (s : ℕ) → ReadBits d s bytes (number_of_bits (bits_at d bytes s))
unfolding bits_at
bits_number d bytes s =
    let r = bits_at d bytes s in
    let long = length-bits_at d bytes s in
    let bit : (k : ℕ) → get_or r k 0 < 2 = tabulate_below 2 d _ (omega arith) (λ k h. bit_at_below bytes (s * d + k)) in
    record {
      bits = ap (λ n. bits_of n (number_of_bits r)) (sym long) ∙ bits_of_number_of_bits r bit;
      below = subst (λ n. number_of_bits r < 2 ^ n) long (number_of_bits_below r bit);
    }

-- The bits of step s as a number.
abbrev number_at : Walk → List ℕ → ℕ → ℕ
number_at w bytes s = number_of_bits (bits_at w.d bytes s)

pub step_d : (w : Walk) (n : ℕ) → (step_walk w n).d ≡ w.d
unfolding step_walk walk_of
step_d w n = refl

-- Each step has one doubling and d additions.
pub entries_doublings : (m : ℕ) (w : Walk) → Ready w → (bytes : List ℕ) (s : ℕ) → doublings (walk_entries w bytes s m) ≡ m
unfolding walk_entries doublings
entries_doublings zero w ready bytes s = refl
entries_doublings (suc m) w ready bytes s =
    let n = number_at w bytes s in
    let later = walk_entries (step_walk w n) bytes (suc s) m in
    omega (
      arith,
      ap doublings (entries_next w bytes s m n (bits_number w.d bytes s)),
      doublings-append (block_of w n) later,
      block_of_doublings ready n,
      entries_doublings m (step_walk w n) (ready_step ready n) bytes (suc s),
    )

pub entries_additions : (m : ℕ) (w : Walk) → Ready w → (bytes : List ℕ) (s : ℕ) → addition_count (walk_entries w bytes s m) ≡ m * w.d
unfolding walk_entries addition_count
entries_additions zero w ready bytes s = sym (zero-mul w.d)
entries_additions (suc m) w ready bytes s =
    let n = number_at w bytes s in
    let later = walk_entries (step_walk w n) bytes (suc s) m in
    omega (
      arith,
      ap addition_count (entries_next w bytes s m n (bits_number w.d bytes s)),
      addition_count-append (block_of w n) later,
      block_of_additions ready n,
      entries_additions m (step_walk w n) (ready_step ready n) bytes (suc s) ∙ ap (λ d. m * d) (step_d w n),
      suc-mul m w.d,
    )
