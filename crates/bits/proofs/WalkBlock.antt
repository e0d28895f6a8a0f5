-- A step's entries are those that the matrix gives: the vectors that are filled in sign by sign are the differences of the rows.
-- Assumes nothing.
use Prim.Native.Nat.{ℕ, zero, suc, ◌+◌, ◌<◌}
use mathlib.Core.Path.{◌≡◌, sym, ap, ap₂, ◌∙◌}
use mathlib.Core.List.{List, ◌∷◌, map}
use native.Mathlib.Omega.{arith}
use lib.IntN.{pos}
use lib.ListN.{length, get_or, drop, replicate, length-replicate, get_or-replicate, drop_of_length-le}
use lib.Seq.{drop-cons, ext_get_or}
use Rattle.ladder.specs.Lists.{ones}
use Rattle.ladder.specs.Matrix.{Matrix, StateMatrix, signs_of, additions, step_order}
use Rattle.ladder.specs.Trace.{vector_of, operations, entry_of, block}
use Rattle.ladder.proofs.Step.{length-additions, length-step_order, no_pair}
use Rattle.ladder.proofs.Vectors.{length_vector, vector_doubling, operation, vector_filled}
use Rattle.bits.specs.WalkBlock.{filled, walk_block}

module _ {d : ℕ} {B : Matrix} {S : List ℕ} (M : StateMatrix d B S) (r : List ℕ) (long : length r ≡ d) where
  -- The additions from addition k on.
  filled_from : (m k : ℕ) → m + k ≡ d
      → filled (vector_of d B (operation r k)) (signs_of d B) (drop k (step_order S r)) (drop k (additions r))
      ≡ map (entry_of d B) (drop k (additions r))
  unfolding filled entry_of operations
  filled_from zero k e =
      ap₂ (λ T ps. filled (vector_of d B (operation r k)) (signs_of d B) T ps)
      (drop_of_length-le (step_order S r) {i = k} (omega (arith, length-step_order S r)))
      (drop_of_length-le (additions r) {i = k} (omega (arith, length-additions r)))
      ∙ sym (ap (map (entry_of d B)) (drop_of_length-le (additions r) {i = k} (omega (arith, length-additions r))))
  filled_from (suc m) k e =
      let p = get_or (additions r) k no_pair in
      let places = drop-cons (step_order S r) k 0 (omega (arith, length-step_order S r)) in
      let pairs = drop-cons (additions r) k no_pair (omega (arith, length-additions r)) in
      ap₂ (λ T ps. filled (vector_of d B (operation r k)) (signs_of d B) T ps) places pairs
      ∙ ap (λ v. record { x = p.x; y = p.y; vector = v }
      ∷ filled v (signs_of d B) (drop (suc k) (step_order S r)) (drop (suc k) (additions r))) (sym (vector_filled M r long k (omega arith)))
      ∙ ap (λ es. entry_of d B p ∷ es) (filled_from m (suc k) (omega arith))
      ∙ sym (ap (map (entry_of d B)) pairs)

  zeros_first : (i : ℕ) → replicate d (pos 0) ≡ vector_of d B (record { x = i; y = i })
  zeros_first i =
      ext_get_or (pos 0) (replicate d (pos 0)) (vector_of d B (record { x = i; y = i }))
      (length-replicate d (pos 0) ∙ sym (length_vector d B (record { x = i; y = i })))
      (λ j l.
      let h : j < d = omega (arith, length-replicate d (pos 0)) in
      get_or-replicate d j (pos 0) (pos 0) h ∙ sym (vector_doubling d B i j h))

  -- A step's block, made of signs, is the block made of the matrix.
  pub walk_block_lem : walk_block d (signs_of d B) (step_order S r) r ≡ block d B r
  unfolding walk_block block operations entry_of
  walk_block_lem =
      ap (λ v. record { x = ones r; y = ones r; vector = v } ∷ filled v (signs_of d B) (step_order S r) (additions r)) (zeros_first (ones r))
      ∙ ap (λ es. entry_of d B (record { x = ones r; y = ones r }) ∷ es) (filled_from d 0 (omega arith))
