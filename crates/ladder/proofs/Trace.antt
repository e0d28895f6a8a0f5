-- The trace: each step is one doubling and d additions, and the bytes have their buffer's length.
-- Assumes nothing.
use Prim.Native.Nat.{ℕ, zero, suc, pred, ◌+◌, ◌*◌, ◌≤◌}
use mathlib.Core.Path.{◌≡◌, refl, sym, ap, ◌∙◌}
use mathlib.Core.List.{List, [], ◌∷◌, ◌++◌, map, flatten, append_assoc}
use native.Mathlib.Nat.{zero-mul, suc-mul, mul_assoc, le_refl}
use native.Mathlib.Omega.{arith}
use lib.ListN.{length, length-map, length-append}
use Rattle.ladder.specs.Lists.{joined, ones}
use Rattle.ladder.specs.Numbers.{trace_length}
use Rattle.ladder.specs.Matrix.{Matrix, Pair, pairs_from, additions}
use Rattle.ladder.specs.Plan.{Plan, matrix_in, step_bits}
use Rattle.ladder.specs.Trace.{vector_of, Entry, operations, entry_of, block, block_in, entries_in, signed_byte, entry_bytes, trace_bytes, doublings, addition_count}
use Rattle.ladder.proofs.Lists.{same_self, same_other, length-joined}
use Rattle.ladder.proofs.Step.{length-additions}
use Rattle.ladder.proofs.Bits.{length-step_bits}
use Rattle.ladder.proofs.Vectors.{length_vector}

-- ---- counts

pub doublings-append : (a b : List Entry) → doublings (a ++ b) ≡ doublings a + doublings b
unfolding doublings
doublings-append [] b = omega arith
doublings-append (e ∷ a) b = omega (arith, doublings-append a b)

pub addition_count-append : (a b : List Entry) → addition_count (a ++ b) ≡ addition_count a + addition_count b
unfolding addition_count
addition_count-append [] b = omega arith
addition_count-append (e ∷ a) b = omega (arith, addition_count-append a b)

-- The pairs from x ≤ y on have x and y apart, as long as x can fall.
counts_from : (d : ℕ) (B : Matrix) (x y : ℕ) (r : List ℕ) → ones r ≤ x → x ≤ y
    → (doublings (map (entry_of d B) (pairs_from x y r)) ≡ 0) × (addition_count (map (entry_of d B) (pairs_from x y r)) ≡ length r)
unfolding doublings addition_count pairs_from ones entry_of
counts_from d B x y [] h l = (refl, refl)
counts_from d B x y (zero ∷ r) h l =
    let c = counts_from d B x (suc y) r h (omega arith) in
    let n = same_other x (suc y) (omega arith) in
    (omega (arith, c.0), omega (arith, c.1))
counts_from d B x y (suc b ∷ r) h l =
    let c = counts_from d B (pred x) y r (omega arith) (omega arith) in
    let n = same_other (pred x) y (omega arith) in
    (omega (arith, c.0), omega (arith, c.1))

-- Each step is one doubling and d additions.
pub block-doublings : (d : ℕ) (B : Matrix) (r : List ℕ) → doublings (block d B r) ≡ 1
unfolding block operations additions doublings entry_of
block-doublings d B r = omega (arith, same_self (ones r), (counts_from d B (ones r) (ones r) r (le_refl (ones r)) (le_refl (ones r))).0)

pub block-additions : (d : ℕ) (B : Matrix) (r : List ℕ) → addition_count (block d B r) ≡ length r
unfolding block operations additions addition_count entry_of
block-additions d B r = omega (arith, same_self (ones r), (counts_from d B (ones r) (ones r) r (le_refl (ones r)) (le_refl (ones r))).1)

blocks_doublings : (n : ℕ) (f : ℕ → List Entry) → ((s : ℕ) → doublings (f s) ≡ 1) → doublings (joined n f) ≡ n
unfolding joined doublings
blocks_doublings zero f e = refl
blocks_doublings (suc n) f e = omega (arith, doublings-append (joined n f) (f n), blocks_doublings n f e, e n)

blocks_additions : (d n : ℕ) (f : ℕ → List Entry) → ((s : ℕ) → addition_count (f s) ≡ d) → addition_count (joined n f) ≡ n * d
unfolding joined addition_count
blocks_additions d zero f e = sym (zero-mul d)
blocks_additions d (suc n) f e =
    omega (arith, addition_count-append (joined n f) (f n), blocks_additions d n f e, e n, suc-mul n d)

-- A plan's trace has l doublings and l * d additions.
pub trace_doublings : (p : Plan) → doublings (entries_in p) ≡ p.l
unfolding entries_in block_in
trace_doublings p = blocks_doublings p.l (block_in p) (λ s. block-doublings p.d (matrix_in p s) (step_bits p s))

pub trace_additions : (p : Plan) → addition_count (entries_in p) ≡ p.l * p.d
unfolding entries_in block_in
trace_additions p =
    blocks_additions p.d p.l (block_in p)
    (λ s. block-additions p.d (matrix_in p s) (step_bits p s) ∙ length-step_bits p s)

-- ---- bytes

-- The bytes of two lists of entries are the bytes of the one, then those of the other: a part of a trace is a part of its bytes.
pub trace_bytes-append : (a b : List Entry) → trace_bytes (a ++ b) ≡ trace_bytes a ++ trace_bytes b
unfolding trace_bytes flatten
trace_bytes-append [] b = refl
trace_bytes-append (e ∷ a) b =
    ap (λ l. entry_bytes e ++ l) (trace_bytes-append a b) ∙ sym (append_assoc (entry_bytes e) (trace_bytes a) (trace_bytes b))

pub trace_bytes-joined : (n : ℕ) (f : ℕ → List Entry) → trace_bytes (joined n f) ≡ joined n (λ s. trace_bytes (f s))
unfolding joined trace_bytes flatten
trace_bytes-joined zero f = refl
trace_bytes-joined (suc n) f = trace_bytes-append (joined n f) (f n) ∙ ap (λ l. l ++ trace_bytes (f n)) (trace_bytes-joined n f)

length_entries : (d : ℕ) (B : Matrix) (l : List Pair) → length (trace_bytes (map (entry_of d B) l)) ≡ length l * (d + 2)
unfolding trace_bytes flatten entry_bytes entry_of
length_entries d B [] = sym (zero-mul (d + 2))
length_entries d B (q ∷ l) =
    let v = vector_of d B q in
    omega (
      arith,
      length-append (map signed_byte v) (trace_bytes (map (entry_of d B) l)),
      length-map v signed_byte,
      length_vector d B q,
      length_entries d B l,
      suc-mul (length l) (d + 2),
    )

length-block : (d : ℕ) (B : Matrix) (r : List ℕ) → length r ≡ d → length (trace_bytes (block d B r)) ≡ (d + 1) * (d + 2)
unfolding block operations
length-block d B r e =
    length_entries d B (operations r) ∙ ap (λ n. n * (d + 2)) (omega (arith, length-additions r))

-- A trace has exactly its buffer's length.
pub trace_length_lem : (p : Plan) → length (trace_bytes (entries_in p)) ≡ trace_length p.d p.l
unfolding entries_in block_in trace_length
trace_length_lem p =
    ap length (trace_bytes-joined p.l (block_in p))
    ∙ length-joined ((p.d + 1) * (p.d + 2)) p.l (λ s. trace_bytes (block_in p s))
    (λ s h. length-block p.d (matrix_in p s) (step_bits p s) (length-step_bits p s))
    ∙ sym (mul_assoc p.l (p.d + 1) (p.d + 2))
