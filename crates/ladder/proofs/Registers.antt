-- Registers: a valuation of rows that respects double and add on state matrices is what the registers hold after each step.
-- So the plain run and the difference run both hold each row's combination of the elements, by the modulus.
-- Assumes nothing.
use Prim.Native.Nat.{ℕ, zero, suc, ◌+◌, ◌-◌, ◌*◌, ◌%◌, ◌≤◌, ◌<◌}
use mathlib.Core.Path.{◌≡◌, refl, sym, ap, ap₂, ◌∙◌}
use mathlib.Core.List.{List, [], ◌∷◌, map}
use native.Mathlib.Nat.{add-mul, mul-add, add-mod, zero-mod, mod-add-mod, add-mul-mod_self_right, two-mul, zero-mul, suc-mul, add_comm}
use native.Mathlib.Decide.{dec_le}
use native.Mathlib.Omega.{arith}
use lib.IntN.{ℤ, sub_ℕ}
use lib.ListN.{length, get_or, replicate, length-replicate}
use Rattle.ladder.specs.Lists.{tabulate, ones}
use Rattle.ladder.specs.Matrix.{Row, Matrix, row, Arrangement, StateMatrix, add_rows, double_row, bump, rows_from, start_matrix, Pair, additions, step, matrix_after}
use Rattle.ladder.specs.Trace.{difference, vector_of}
use Rattle.ladder.specs.Registers.{Rule, step_registers, registers_after, modulus, sum_of, combination, times_signed, signed_sum, plain_rule, difference_rule, difference_add, start_from, start_registers}
use Rattle.ladder.proofs.Lists.{get_or-map, map-map, map_same, ones_le}
use Rattle.ladder.proofs.Step.{length-additions, no_pair}
use Rattle.ladder.proofs.Ladder.{length-bump, state_after}
use Rattle.ladder.proofs.Vectors.{sub_le, sub_lt, addition_apart, addition_inside}

-- ---- over any kind of value

-- A valuation of rows respects a rule where, on the rows of any state matrix of dimension d, double and add of values are the
-- values of the double and of the sum.
pub record Respects {A : Type 0} (rule : Rule A) (d : ℕ) (value : Row → A) : Type 0 where
  pub doubles : (B : Matrix) (S : List ℕ) → StateMatrix d B S → (i : ℕ) → i ≤ d
      → rule.double (value (row B i)) ≡ value (double_row (row B i))
  pub adds : (B : Matrix) (S : List ℕ) → StateMatrix d B S → (p : Pair) → p.x < p.y → p.y ≤ d
      → rule.add (value (row B p.x)) (value (row B p.y)) (vector_of d B p) ≡ value (add_rows (row B p.x) (row B p.y))

module _ {A : Type 0} {rule : Rule A} {d : ℕ} {value : Row → A} (R : Respects rule d value) where
  held : {B : Matrix} {S : List ℕ} → StateMatrix d B S → (i : ℕ) → i ≤ d
      → get_or (map value B) i rule.none ≡ value (row B i)
  held {B} M i h = get_or-map value B i [] rule.none (omega (arith, M.rows))

  value_sum : {B : Matrix} {S : List ℕ} → StateMatrix d B S → (p : Pair) → p.x < p.y → p.y ≤ d
      → rule.add (get_or (map value B) p.x rule.none) (get_or (map value B) p.y rule.none) (vector_of d B p)
      ≡ value (add_rows (row B p.x) (row B p.y))
  value_sum {B} {S} M p h l =
      ap₂ (λ a b. rule.add a b (vector_of d B p)) (held M p.x (omega arith)) (held M p.y l) ∙ R.adds B S M p h l

  -- One step takes the values of a state matrix's rows to the values of the next one's.
  pub value_step : {B : Matrix} {S : List ℕ} → StateMatrix d B S → (r : List ℕ) → length r ≡ d
      → step_registers rule d B (map value B) r ≡ map value (step B r)
  unfolding step_registers step
  value_step {B} {S} M r long =
      ap₂ (λ a rest. a ∷ rest)
      (ap rule.double (held M (ones r) (omega (arith, ones_le r))) ∙ R.doubles B S M (ones r) (omega (arith, ones_le r)))
      (map_same
      (λ p. rule.add (get_or (map value B) p.x rule.none) (get_or (map value B) p.y rule.none) (vector_of d B p))
      (λ p. value (add_rows (row B p.x) (row B p.y)))
      (additions r) no_pair
      (λ i h.
      let b : i < length r = omega (arith, length-additions r) in
      value_sum M (get_or (additions r) i no_pair) (addition_apart r i b) (omega (arith, addition_inside r i b)))
      ∙ sym (map-map value (λ p. add_rows (row B p.x) (row B p.y)) (additions r)))

  -- The registers after each step are the values of the rows, if they are at the start.
  pub registers_are_values : {S : List ℕ} → Arrangement d S → (r : ℕ → List ℕ) → ((s : ℕ) → length (r s) ≡ d) → (regs : List A)
      → regs ≡ map value (start_matrix d S) → (n : ℕ) → registers_after rule d S r regs n ≡ map value (matrix_after d S r n)
  unfolding registers_after matrix_after
  registers_are_values a r long regs e zero = e
  registers_are_values {S} a r long regs e (suc n) =
      ap (λ q. step_registers rule d (matrix_after d S r n) q (r n)) (registers_are_values a r long regs e n)
      ∙ value_step (state_after a r long n) (r n) (long n)

-- ---- sums of products

sum_of-add_rows : (u v : Row) (es : List ℕ) → sum_of (add_rows u v) es ≡ sum_of u es + sum_of v es
unfolding sum_of add_rows
sum_of-add_rows [] v es = omega arith
sum_of-add_rows (a ∷ u) [] es = omega arith
sum_of-add_rows (a ∷ u) (b ∷ v) [] = refl
sum_of-add_rows (a ∷ u) (b ∷ v) (e ∷ es) = omega (arith, sum_of-add_rows u v es, add-mul a b e)

sum_of-double_row : (u : Row) (es : List ℕ) → sum_of (double_row u) es ≡ sum_of u es + sum_of u es
unfolding sum_of double_row
sum_of-double_row [] es = refl
sum_of-double_row (a ∷ u) [] = refl
sum_of-double_row (a ∷ u) (e ∷ es) =
    let t : 2 * a * e ≡ (a + a) * e = ap (λ n. n * e) (two-mul a) in
    omega (arith, sum_of-double_row u es, t, add-mul a a e)

sum_of-bump : (u : Row) (j : ℕ) (es : List ℕ) → j < length u → sum_of (bump u j) es ≡ sum_of u es + get_or es j 0
unfolding sum_of bump
sum_of-bump [] j es h = absurd (omega arith)
sum_of-bump (a ∷ u) zero [] h = refl
sum_of-bump (a ∷ u) zero (e ∷ es) h = omega (arith, suc-mul a e)
sum_of-bump (a ∷ u) (suc j) [] h = refl
sum_of-bump (a ∷ u) (suc j) (e ∷ es) h = omega (arith, sum_of-bump u j es (omega arith))

sum_of_zeros : (d : ℕ) (es : List ℕ) → sum_of (replicate d 0) es ≡ 0
unfolding sum_of
sum_of_zeros zero es = refl
sum_of_zeros (suc d) [] = refl
sum_of_zeros (suc d) (e ∷ es) = omega (arith, zero-mul e, sum_of_zeros d es)

-- ---- the start registers

start_from_lem : (m : ℕ) (es : List ℕ) (u : Row) (S : List ℕ) → ((k : ℕ) → k < length S → get_or S k 0 < length u)
    → start_from m es (combination m es u) S ≡ map (combination m es) (rows_from u S)
unfolding start_from rows_from combination
start_from_lem m es u [] h = refl
start_from_lem m es u (j ∷ S) h =
    ap (λ rest. combination m es u ∷ rest)
    (ap (λ a. start_from m es a S) (next (h zero (omega arith)))
    ∙ start_from_lem m es (bump u j) S (λ k l. omega (arith, h (suc k) (omega arith), length-bump u j)))
  where
    next : j < length u → (combination m es u + get_or es j 0) % modulus m ≡ combination m es (bump u j)
    next l =
        mod-add-mod (sum_of u es) (modulus m) (get_or es j 0) ∙ ap (λ n. n % modulus m) (sym (sum_of-bump u j es l))

pub start_registers_lem : (m : ℕ) (es : List ℕ) {d : ℕ} {S : List ℕ} → Arrangement d S
    → start_registers m es S ≡ map (combination m es) (start_matrix d S)
unfolding start_registers start_matrix combination
start_registers_lem m es {d} {S} a =
    ap (λ n. start_from m es n S) (sym (ap (λ n. n % modulus m) (sum_of_zeros d es) ∙ zero-mod (modulus m)))
    ∙ start_from_lem m es (replicate d 0) S
    (λ k h. omega (arith, a.inside k (omega (arith, a.long)), length-replicate d zero))

-- ---- the plain run

pub plain_respects : (m : ℕ) (es : List ℕ) (d : ℕ) → Respects (plain_rule m) d (combination m es)
unfolding plain_rule combination
plain_respects m es d = record {
  doubles = λ B S M i h.
      sym (add-mod (sum_of (row B i) es) (sum_of (row B i) es) (modulus m))
      ∙ ap (λ n. n % modulus m) (sym (sum_of-double_row (row B i) es));
  adds = λ B S M p h l.
      sym (add-mod (sum_of (row B p.x) es) (sum_of (row B p.y) es) (modulus m))
      ∙ ap (λ n. n % modulus m) (sym (sum_of-add_rows (row B p.x) (row B p.y) es));
}

-- ---- the difference run

-- The addition of the difference run is the same with any register y.
pub difference_ignores_y : (m : ℕ) (es : List ℕ) (a b c : ℕ) (v : List ℤ)
    → (difference_rule m es).add a b v ≡ (difference_rule m es).add a c v
unfolding difference_rule
difference_ignores_y m es a b c v = refl

-- A number a, and its difference from b times e, make b times e, by the modulus.
term : (m a b e : ℕ) → e ≤ modulus m → (n k : ℕ)
    → (a * e + n + (times_signed m (sub_ℕ b a) e + k)) % modulus m ≡ (b * e + (n + k)) % modulus m
unfolding times_signed
term m a b e f n k = go (dec_le a b)
  where
    go : Dec (a ≤ b) → (a * e + n + (times_signed m (sub_ℕ b a) e + k)) % modulus m ≡ (b * e + (n + k)) % modulus m
    go (yes h) =
        let whole : a * e + (b - a) * e ≡ b * e = sym (add-mul a (b - a) e) ∙ ap (λ c. c * e) (omega arith) in
        ap (λ c. (a * e + n + (times_signed m c e + k)) % modulus m) (sub_le b a h)
        ∙ ap (λ c. c % modulus m) (omega arith)
    go (no h) =
        let t = suc (a - suc b) in
        let parts : a * e ≡ b * e + t * e = ap (λ c. c * e) (omega arith) ∙ add-mul b t e in
        let less : t * (modulus m - e) + t * e ≡ t * modulus m =
        sym (mul-add t (modulus m - e) e) ∙ ap (λ c. t * c) (omega arith) in
        let sum : a * e + n + (t * (modulus m - e) + k) ≡ b * e + (n + k) + t * modulus m = omega arith in
        ap (λ c. (a * e + n + (times_signed m c e + k)) % modulus m) (sub_lt b a (omega arith))
        ∙ ap (λ c. c % modulus m) sum
        ∙ add-mul-mod_self_right (b * e + (n + k)) t (modulus m)

-- Row u and the combination by row v minus row u make row v, by the modulus.
difference_sum : (m : ℕ) (d : ℕ) (u v : Row) (es : List ℕ) → length u ≡ d → length v ≡ d
    → ((j : ℕ) → get_or es j 0 ≤ modulus m) → (k : ℕ)
    → (sum_of u es + (signed_sum m (difference d v u) es + k)) % modulus m ≡ (sum_of v es + k) % modulus m
unfolding sum_of signed_sum difference tabulate
difference_sum m d [] [] es h l f k =
    ap (λ n. (0 + (signed_sum m (tabulate n (λ j. sub_ℕ 0 0)) es + k)) % modulus m) (sym h) ∙ ap (λ n. n % modulus m) (omega arith)
difference_sum m d [] (b ∷ v) es h l f k = absurd (omega arith)
difference_sum m d (a ∷ u) [] es h l f k = absurd (omega arith)
difference_sum m zero (a ∷ u) (b ∷ v) es h l f k = absurd (omega arith)
difference_sum m (suc d) (a ∷ u) (b ∷ v) [] h l f k = ap (λ n. n % modulus m) (omega arith)
difference_sum m (suc d) (a ∷ u) (b ∷ v) (e ∷ es) h l f k =
    let D = signed_sum m (tabulate d (λ j. sub_ℕ (get_or v j 0) (get_or u j 0))) es in
    let t = times_signed m (sub_ℕ b a) e in
    ap (λ n. n % modulus m) (omega arith)
    ∙ term m a b e (f zero) (sum_of u es) (D + k)
    ∙ (let shift : b * e + (sum_of u es + (D + k)) ≡ sum_of u es + (D + (b * e + k)) = omega arith in
    ap (λ n. n % modulus m) shift)
    ∙ difference_sum m d u v es (omega arith) (omega arith) (λ j. f (suc j)) (b * e + k)
    ∙ ap (λ n. n % modulus m) (omega arith)

pub difference_respects : (m : ℕ) (es : List ℕ) (d : ℕ) → ((j : ℕ) → get_or es j 0 ≤ modulus m)
    → Respects (difference_rule m es) d (combination m es)
unfolding difference_rule difference_add combination vector_of
difference_respects m es d fits = record {
  doubles = λ B S M i h.
      sym (add-mod (sum_of (row B i) es) (sum_of (row B i) es) (modulus m))
      ∙ ap (λ n. n % modulus m) (sym (sum_of-double_row (row B i) es));
  adds = λ B S M p h l.
      let u = row B p.x in
      let v = row B p.y in
      twice (sum_of u es) (signed_sum m (vector_of d B p) es) (modulus m)
      ∙ difference_sum m d u v es (M.wide p.x (omega arith)) (M.wide p.y l) fits (sum_of u es)
      ∙ ap (λ n. n % modulus m) (add_comm (sum_of v es) (sum_of u es) ∙ sym (sum_of-add_rows u v es));
}
  where
    twice : (a k M : ℕ) → (2 * (a % M) + k) % M ≡ (a + (k + a)) % M
    twice a k M =
        let open-two : 2 * (a % M) + k ≡ a % M + (a % M + k) = omega arith in
        let swap : a + (a % M + k) ≡ a % M + (k + a) = omega arith in
        ap (λ n. n % M) open-two ∙ mod-add-mod a M (a % M + k) ∙ ap (λ n. n % M) swap ∙ mod-add-mod a M (k + a)

-- ---- the two runs

module _ (m : ℕ) (es : List ℕ) {d : ℕ} {S : List ℕ} (a : Arrangement d S) (r : ℕ → List ℕ)
    (long : (s : ℕ) → length (r s) ≡ d) where
  -- The plain run's registers after each step are the rows' combinations by the modulus.
  pub plain_registers_lem : (n : ℕ)
      → registers_after (plain_rule m) d S r (start_registers m es S) n ≡ map (combination m es) (matrix_after d S r n)
  plain_registers_lem n =
      registers_are_values (plain_respects m es d) a r long (start_registers m es S) (start_registers_lem m es a) n

  -- So are the difference run's, which never reads register y.
  pub difference_registers_lem : ((j : ℕ) → get_or es j 0 ≤ modulus m) → (n : ℕ)
      → registers_after (difference_rule m es) d S r (start_registers m es S) n ≡ map (combination m es) (matrix_after d S r n)
  difference_registers_lem fits n =
      registers_are_values (difference_respects m es d fits) a r long (start_registers m es S) (start_registers_lem m es a) n

  -- The two runs hold the same registers after each step.
  pub runs_agree : ((j : ℕ) → get_or es j 0 ≤ modulus m) → (n : ℕ)
      → registers_after (difference_rule m es) d S r (start_registers m es S) n
      ≡ registers_after (plain_rule m) d S r (start_registers m es S) n
  runs_agree fits n = difference_registers_lem fits n ∙ sym (plain_registers_lem n)
