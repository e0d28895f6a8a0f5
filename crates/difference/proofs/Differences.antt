-- The register that an entry of a step makes by the difference rule: a doubling's is twice the old one, each is an element, and all
-- of a step's are those that the rule has.
-- Assumes nothing.
use Rattle.std.proofs.Common.{◌≡◌, ℕ, zero, suc, ◌+◌, ◌%◌, ◌<◌, ◌≤◌, List, [], ◌∷◌, map, length, get_or, take, replicate, ℤ, pos, refl, ap, ◌∙◌, ap₂, zero-mul, arith}
use lib.ListN.{length-replicate, get_or-replicate}
use Rattle.ladder.specs.Lists.{ones}
use Rattle.ladder.specs.Matrix.{Matrix, additions}
use Rattle.ladder.specs.Trace.{Entry, vector_of, operations, entry_of, block}
use Rattle.ladder.specs.Registers.{step_registers, modulus, times_signed, signed_sum, difference_add, difference_rule}
use Rattle.ladder.proofs.Lists.{map-map}
use Rattle.ladder.proofs.Vectors.{length_vector, vector_doubling}
use Rattle.ladder.proofs.Writes.{take-replicate}
use Rattle.difference.specs.Inner.{difference_of}
use Rattle.registers.proofs.ByModulus.{modulus_positive, below_modulus}

-- ---- doublings

zero_sum : (m : ℕ) (v : List ℤ) (es : List ℕ) → ((j : ℕ) → j < length v → get_or v j (pos 0) ≡ pos 0) → signed_sum m v es ≡ 0
unfolding signed_sum times_signed
zero_sum m [] es z = refl
zero_sum m (c ∷ v) [] z = refl
zero_sum m (c ∷ v) (e ∷ es) z =
    omega (arith, ap (λ n. times_signed m n e) (z zero (omega arith)), zero-mul e, zero_sum m v es (λ j h. z (suc j) (omega arith)))

-- With a vector of zeros an addition is a doubling.
add_zeros : (m : ℕ) (es : List ℕ) (a : ℕ) (v : List ℤ) → ((j : ℕ) → j < length v → get_or v j (pos 0) ≡ pos 0)
    → difference_add m es a v ≡ (a + a) % modulus m
unfolding difference_add
add_zeros m es a v z = ap (λ n. n % modulus m) (omega (arith, zero_sum m v es z))

pub doubled_zeros : (m : ℕ) (es : List ℕ) (a d n : ℕ) → d ≤ n → difference_add m es a (take d (replicate n (pos 0))) ≡ (a + a) % modulus m
doubled_zeros m es a d n h =
    ap (difference_add m es a) (take-replicate d n (pos 0) h)
    ∙ add_zeros m es a (replicate d (pos 0)) (λ j l. get_or-replicate d j (pos 0) (pos 0) (omega (arith, length-replicate d (pos 0))))

doubled_row : (m : ℕ) (es : List ℕ) (a d : ℕ) (B : Matrix) (i : ℕ)
    → difference_add m es a (vector_of d B (record { x = i; y = i })) ≡ (a + a) % modulus m
doubled_row m es a d B i =
    add_zeros m es a (vector_of d B (record { x = i; y = i }))
    (λ j l. vector_doubling d B i j (omega (arith, length_vector d B (record { x = i; y = i }))))

-- ---- the registers of a step

-- The registers that a step's entries make are those of the rule.
pub block_registers : (m : ℕ) (es : List ℕ) (d : ℕ) (B : Matrix) (regs r : List ℕ)
    → map (difference_of m es regs) (block d B r) ≡ step_registers (difference_rule m es) d B regs r
unfolding difference_of block operations entry_of step_registers difference_rule
block_registers m es d B regs r =
    ap₂ (λ a rest. a ∷ rest) (doubled_row m es (get_or regs (ones r) 0) d B (ones r))
    (map-map (difference_of m es regs) (entry_of d B) (additions r))

-- Each is an element.
pub registers_below : (m : ℕ) (es regs : List ℕ) (entries : List Entry) (i : ℕ) → get_or (map (difference_of m es regs) entries) i 0 < modulus m
unfolding difference_of difference_add
registers_below m es regs [] i = modulus_positive m
registers_below m es regs (e ∷ entries) zero = below_modulus m _
registers_below m es regs (e ∷ entries) (suc i) = registers_below m es regs entries i
