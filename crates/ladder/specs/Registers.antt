-- Registers over any kind of value, and the two runs over words by a modulus.
-- Assumes nothing.
use Rattle.std.specs.Prelude.{ℕ, zero, suc, pred, ◌+◌, ◌-◌, ◌*◌, ◌%◌, ◌^◌, List, [], ◌∷◌, map, ℤ, pos, negsuc, get_or}
use Rattle.ladder.specs.Lists.{ones}
use Rattle.ladder.specs.Matrix.{Row, Matrix, matrix_after, additions}
use Rattle.ladder.specs.Plan.{Plan, start_order, step_bits}
use Rattle.ladder.specs.Trace.{vector_of}

-- ---- registers over any kind of value

-- How a run works: the value of a double; the value of an addition from register x, register y and the difference vector;
-- and the value that stands where there is no register.
pub record Rule (A : Type 0) : Type 0 where
  pub double : A → A
  pub add : A → A → List ℤ → A
  pub none : A

-- The registers after a step with bits r. B is the matrix before it; only the difference vectors come from B.
unfoldable pub step_registers : {A : Type 0} → Rule A → ℕ → Matrix → List A → List ℕ → List A
step_registers rule d B regs r =
    rule.double (get_or regs (ones r) rule.none)
    ∷ map (λ p. rule.add (get_or regs p.x rule.none) (get_or regs p.y rule.none) (vector_of d B p)) (additions r)

-- The registers after n steps from a start order and start registers.
unfoldable pub registers_after : {A : Type 0} → Rule A → ℕ → List ℕ → (ℕ → List ℕ) → List A → ℕ → List A
registers_after rule d S r regs zero = regs
registers_after rule d S r regs (suc n) = step_registers rule d (matrix_after d S r n) (registers_after rule d S r regs n) (r n)

-- ---- words by a modulus

-- The modulus that a number stands for: 0 stands for 2^64.
unfoldable pub modulus : ℕ → ℕ
modulus zero = 2 ^ 64
modulus (suc m) = suc m

-- The sum of a row's entries times the elements.
unfoldable pub sum_of : Row → List ℕ → ℕ
sum_of [] es = 0
sum_of (a ∷ u) [] = 0
sum_of (a ∷ u) (e ∷ es) = a * e + sum_of u es

-- The combination of the elements by a row, by the modulus.
unfoldable pub combination : ℕ → List ℕ → Row → ℕ
combination m es u = sum_of u es % modulus m

-- A whole number times an element; the negative of an element is the modulus less the element.
unfoldable pub times_signed : ℕ → ℤ → ℕ → ℕ
times_signed m (pos c) e = c * e
times_signed m (negsuc c) e = suc c * (modulus m - e)

-- The combination of the elements by a vector of signed numbers, before it is reduced.
unfoldable pub signed_sum : ℕ → List ℤ → List ℕ → ℕ
signed_sum m [] es = 0
signed_sum m (c ∷ v) [] = 0
signed_sum m (c ∷ v) (e ∷ es) = times_signed m c e + signed_sum m v es

-- The plain run adds register x and register y.
unfoldable pub plain_rule : ℕ → Rule ℕ
plain_rule m = record {
  double = λ a. (a + a) % modulus m;
  add = λ a b v. (a + b) % modulus m;
  none = 0;
}

-- The difference run's addition is handed register x, the vector, the elements and the modulus and nothing else: twice the
-- register plus the combination of the elements by the vector. With 10, 20 modulo 101, register 10 and vector -1, 1 give 30.
unfoldable pub difference_add : ℕ → List ℕ → ℕ → List ℤ → ℕ
difference_add m es a v = (2 * a + signed_sum m v es) % modulus m

-- The difference run makes each addition by it, with no use of register y.
unfoldable pub difference_rule : ℕ → List ℕ → Rule ℕ
difference_rule m es = record {
  double = λ a. (a + a) % modulus m;
  add = λ a b v. difference_add m es a v;
  none = 0;
}

-- Register a, and for each place of an order the register before it plus the element of the column that stands there.
unfoldable pub start_from : ℕ → List ℕ → ℕ → List ℕ → List ℕ
start_from m es a [] = a ∷ []
start_from m es a (j ∷ S) = a ∷ start_from m es ((a + get_or es j 0) % modulus m) S

-- The start registers of a run. With 10, 20 and order 1 2 they are 0, 10, 30.
unfoldable pub start_registers : ℕ → List ℕ → List ℕ → List ℕ
start_registers m es S = start_from m es 0 S

-- The registers of a plan after n steps, by the plain rule.
unfoldable pub plain_registers : Plan → ℕ → List ℕ → ℕ → List ℕ
plain_registers p m es n =
    registers_after (plain_rule m) p.d (start_order p) (step_bits p) (start_registers m es (start_order p)) n

-- The registers of a plan after n steps, by the difference run's own rule.
unfoldable pub difference_registers : Plan → ℕ → List ℕ → ℕ → List ℕ
difference_registers p m es n =
    registers_after (difference_rule m es) p.d (start_order p) (step_bits p) (start_registers m es (start_order p)) n

-- The register of the answer row.
unfoldable pub answer_register : Plan → List ℕ → ℕ
answer_register p regs = get_or regs (pred p.answer) 0
