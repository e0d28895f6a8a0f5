-- Encoding, for any arrangement as end order: the plan's last matrix has each scalar beside its neighbour in each column, and its
-- order is the end order. With odd scalars' columns first, the answer row is the scalars.
-- Assumes nothing.
use Prim.Native.Nat.{ℕ, zero, suc, ◌+◌, ◌-◌, ◌*◌, ◌/◌, ◌%◌, ◌^◌, ◌≤◌, ◌<◌}
use mathlib.Core.Path.{◌≡◌, refl, sym, ap, ap₂, subst, ◌∙◌}
use mathlib.Core.List.{List}
use native.Mathlib.Nat.{not-suc-le-zero, div-one, div-eq_of_lt, sub_self, sub-zero}
use native.Mathlib.Decide.{ℕ_discrete, dec_le}
use native.Mathlib.Omega.{arith}
use lib.ListN.{length, get_or, take, length-map, get_or-eq_default}
use lib.Pow.{shr-shr}
use lib.Seq.{ext_get_or}
use Rattle.ladder.specs.Lists.{count, odds}
use Rattle.ladder.specs.Matrix.{Matrix, row, entry, Arrangement, step_order, matrix_after, order_after}
use Rattle.ladder.specs.Encoding.{scalar_bit, xor, dealt, deal, rearrange, order_to_go, encoded_start, encoded_bits}
use Rattle.ladder.proofs.Lists.{get_or-map}
use Rattle.ladder.proofs.Order.{place_of, arrangement_rearrange, step_order-rearrange}
use Rattle.ladder.proofs.Stairs.{Stairs}
use Rattle.ladder.proofs.Ladder.{lower, state_after, stairs_after, entry_by_order, lower_after, lower_after_zero, count_before, count_after}

-- ---- bits of a scalar

-- A bit counted from the top is the parity of the scalar's first s bits.
scalar_bit_is : (l n s : ℕ) → n < 2 ^ l → scalar_bit l n s ≡ n / 2 ^ (l - s) % 2
unfolding scalar_bit
scalar_bit_is l n zero h = ap (λ q. q % 2) (sym (div-eq_of_lt (subst (λ k. n < 2 ^ k) (omega arith) h)))
scalar_bit_is l n (suc s) h = refl

-- The first s bits are half of the first s+1 bits.
half : (l n s : ℕ) → s < l → n / 2 ^ (l - s) ≡ n / 2 ^ (l - suc s) / 2
half l n s h =
    let e : l - s ≡ l - suc s + 1 = omega arith in
    ap (λ k. n / 2 ^ k) e ∙ sym (shr-shr n (l - suc s) 1)

pub dealt_is : (l n s : ℕ) → n < 2 ^ l → dealt l n s ≡ (n / 2 ^ (l - suc s) % 2 + n / 2 ^ (l - s) % 2) % 2
unfolding dealt xor
dealt_is l n s h = ap₂ (λ a b. (a + b) % 2) (scalar_bit_is l n (suc s) h) (scalar_bit_is l n s h)

dealt_below : (l n s : ℕ) → dealt l n s < 2
unfolding dealt xor
dealt_below l n s = omega arith

-- ---- the bits dealt

pub deal_at : (l : ℕ) (ks S : List ℕ) (s k : ℕ) → k < length S → get_or (deal l ks S s) k 0 ≡ dealt l (get_or ks (get_or S k 0) 0) s
unfolding deal
deal_at l ks S s k h = get_or-map (λ j. dealt l (get_or ks j 0) s) S k 0 0 h

pub length-deal : (l : ℕ) (ks S : List ℕ) (s : ℕ) → length (deal l ks S s) ≡ length S
unfolding deal
length-deal l ks S s = length-map S (λ j. dealt l (get_or ks j 0) s)

pub deal_below : (l : ℕ) (ks S : List ℕ) (s k : ℕ) → get_or (deal l ks S s) k 0 < 2
deal_below l ks S s k = go (dec_le (suc k) (length S))
  where
    go : Dec (k < length S) → get_or (deal l ks S s) k 0 < 2
    go (yes h) = omega (arith, deal_at l ks S s k h, dealt_below l (get_or ks (get_or S k 0) 0) s)
    go (no h) = omega (arith, get_or-eq_default (deal l ks S s) 0 {n = k} (omega (arith, length-deal l ks S s)))

-- ---- any arrangement as end order

module _ {d : ℕ} (l : ℕ) (ks : List ℕ) {E : List ℕ} (a : Arrangement d E) where
  pub order_to_go_lem : (m : ℕ) → Arrangement d (order_to_go l ks E m)
  unfolding order_to_go
  order_to_go_lem zero = a
  order_to_go_lem (suc m) =
      let o = order_to_go_lem m in
      arrangement_rearrange o (deal l ks (order_to_go l ks E m) (l - suc m)) (length-deal l ks (order_to_go l ks E m) (l - suc m) ∙ o.long)

  pub start_arranged : Arrangement d (encoded_start l ks E)
  unfolding encoded_start
  start_arranged = order_to_go_lem l

  pub length-encoded_bits : (s : ℕ) → length (encoded_bits l ks E s) ≡ d
  unfolding encoded_bits
  length-encoded_bits s = length-deal l ks (order_to_go l ks E (l - suc s)) s ∙ (order_to_go_lem (l - suc s)).long

  pub encoded_bits_below : (s k : ℕ) → get_or (encoded_bits l ks E s) k 0 < 2
  unfolding encoded_bits
  encoded_bits_below s k = deal_below l ks (order_to_go l ks E (l - suc s)) s k

  -- The plan's order after step s is the one that the encoding had there.
  pub encoded-order : (s : ℕ) → s ≤ l → order_after (encoded_start l ks E) (encoded_bits l ks E) s ≡ order_to_go l ks E (l - s)
  unfolding order_after encoded_start encoded_bits order_to_go
  encoded-order zero h = ap (order_to_go l ks E) (sym (sub-zero l))
  encoded-order (suc s) h =
      let U = order_to_go l ks E (l - suc s) in
      let before : l - s ≡ suc (l - suc s) = omega arith in
      let here : l - suc (l - suc s) ≡ s = omega arith in
      ap (λ T. step_order T (deal l ks U s))
      (encoded-order s (omega arith) ∙ ap (order_to_go l ks E) before ∙ ap (λ t. rearrange U (deal l ks U t)) here)
      ∙ step_order-rearrange U (deal l ks U s) (sym (length-deal l ks U s))

  abbrev encodedMatrix : ℕ → Matrix
  encodedMatrix s = matrix_after d (encoded_start l ks E) (encoded_bits l ks E) s

  encoded_stairs : (s : ℕ) → Stairs d (encodedMatrix s) (order_after (encoded_start l ks E) (encoded_bits l ks E) s)
  encoded_stairs = stairs_after start_arranged (encoded_bits l ks E) length-encoded_bits

  -- The lower number of column j after s steps is the first s bits of its scalar.
  pub encoded_lower : ((j : ℕ) → j < d → get_or ks j 0 < 2 ^ l) → (s : ℕ) → s ≤ l → (j : ℕ) → j < d
      → lower d (encodedMatrix s) j ≡ get_or ks j 0 / 2 ^ (l - s)
  unfolding encoded_bits
  encoded_lower fits zero h j b =
      lower_after_zero start_arranged (encoded_bits l ks E) length-encoded_bits j
      ∙ sym (div-eq_of_lt (subst (λ k. get_or ks j 0 < 2 ^ k) (omega arith) (fits j b)))
  encoded_lower fits (suc s) h j b =
      let p = place_of (order_to_go_lem (l - suc s)) j b in
      let at = encoded-order (suc s) h in
      next (get_or ks j 0 / 2 ^ (l - suc s)) (get_or (encoded_bits l ks E s) p.0 0)
      (lower d (encodedMatrix s) j) (lower d (encodedMatrix (suc s)) j)
      (encoded_lower fits s (omega arith) j b ∙ half l (get_or ks j 0) s h)
      (bit p.0 p.1 p.2)
      (subst
      (λ c. lower d (encodedMatrix (suc s)) c
      ≡ 2 * lower d (encodedMatrix s) c + (lower d (encodedMatrix s) c + get_or (encoded_bits l ks E s) p.0 0) % 2)
      (ap (λ U. get_or U p.0 0) at ∙ p.2)
      (lower_after start_arranged (encoded_bits l ks E) length-encoded_bits s p.0 p.1 (encoded_bits_below s p.0)))
    where
      bit : (k : ℕ) → k < d → get_or (order_to_go l ks E (l - suc s)) k 0 ≡ j
          → get_or (encoded_bits l ks E s) k 0 ≡ (get_or ks j 0 / 2 ^ (l - suc s) % 2 + get_or ks j 0 / 2 ^ (l - suc s) / 2 % 2) % 2
      bit k q e =
          deal_at l ks (order_to_go l ks E (l - suc s)) s k (omega (arith, (order_to_go_lem (l - suc s)).long))
          ∙ ap (λ c. dealt l (get_or ks c 0) s) e
          ∙ dealt_is l (get_or ks j 0) s (fits j b)
          ∙ ap (λ m. (get_or ks j 0 / 2 ^ (l - suc s) % 2 + m % 2) % 2) (half l (get_or ks j 0) s h)

      next : (q t m m' : ℕ) → m ≡ q / 2 → t ≡ (q % 2 + q / 2 % 2) % 2 → m' ≡ 2 * m + (m + t) % 2 → m' ≡ q
      next q t m m' e f g =
          let same-parity : (m + t) % 2 ≡ q % 2 = rw (e, f) (omega arith) in omega arith

  -- After the last step the lower number is the scalar, and the order is the end order.
  pub encoded_last : ((j : ℕ) → j < d → get_or ks j 0 < 2 ^ l) → (j : ℕ) → j < d → lower d (encodedMatrix l) j ≡ get_or ks j 0
  encoded_last fits j h =
      encoded_lower fits l (omega arith) j h ∙ ap (λ k. get_or ks j 0 / 2 ^ k) (sub_self l) ∙ div-one (get_or ks j 0)

  pub encoded_end : order_after (encoded_start l ks E) (encoded_bits l ks E) l ≡ E
  unfolding order_to_go
  encoded_end = encoded-order l (omega arith) ∙ ap (order_to_go l ks E) (sub_self l)

  encoded-entry : ((j : ℕ) → j < d → get_or ks j 0 < 2 ^ l) → (i j : ℕ) → i ≤ d → j < d
      → entry (encodedMatrix l) i j ≡ get_or ks j 0 + (get_or ks j 0 + count j (take i E)) % 2
  encoded-entry fits i j h b =
      entry_by_order (encoded_stairs l) j b i h
      ∙ ap₂ (λ m S. m + (m + count j (take i S)) % 2) (encoded_last fits j b) encoded_end

  -- In each column the last matrix has scalar plus its lowest bit in row 0 (the rules' row 1) ..
  pub encoded_first_row : ((j : ℕ) → j < d → get_or ks j 0 < 2 ^ l) → (j : ℕ) → j < d
      → entry (encodedMatrix l) 0 j ≡ get_or ks j 0 + get_or ks j 0 % 2
  unfolding count
  encoded_first_row fits j h =
      encoded-entry fits 0 j (omega arith) h ∙ ap (λ n. get_or ks j 0 + n % 2) (omega arith)

  -- .. and scalar plus 1 minus its lowest bit in row d (the rules' row d+1).
  pub encoded_last_row : ((j : ℕ) → j < d → get_or ks j 0 < 2 ^ l) → (j : ℕ) → j < d
      → entry (encodedMatrix l) d j ≡ get_or ks j 0 + (1 - get_or ks j 0 % 2)
  encoded_last_row fits j h =
      let p = place_of a j h in
      let c : count j (take d E) ≡ 1 =
      subst (λ i. count i (take d E) ≡ 1) p.2
      (count_after E p.0 d (omega (arith, p.1, a.long)) (ap (λ i. count i E) p.2 ∙ a.once j h) p.1) in
      encoded-entry fits d j (omega arith) h
      ∙ ap (λ n. get_or ks j 0 + (get_or ks j 0 + n) % 2) c
      ∙ ap (λ n. get_or ks j 0 + n) (other (get_or ks j 0))
    where
      other : (n : ℕ) → (n + 1) % 2 ≡ 1 - n % 2
      other n = omega arith

-- ---- the answer row

-- Every odd scalar's column stands before every even one's.
pub record OddFirst (d : ℕ) (ks E : List ℕ) : Type 0 where
  pub before : (k m : ℕ) → k < d → m < d → get_or ks (get_or E k 0) 0 % 2 ≡ 1 → get_or ks (get_or E m 0) 0 % 2 ≡ 0 → k < m

-- Then there is a place i with the odd ones before it and the even ones from it on.
record Border (d : ℕ) (ks E : List ℕ) (i : ℕ) : Type 0 where
  inside : i ≤ d
  oddly : (k : ℕ) → k < i → get_or ks (get_or E k 0) 0 % 2 ≡ 1
  evenly : (k : ℕ) → i ≤ k → k < d → get_or ks (get_or E k 0) 0 % 2 ≡ 0

parity : (n : ℕ) → (n % 2 ≡ 0 → ⊥) → n % 2 ≡ 1
parity n h = go (ℕ_discrete (n % 2) 0)
  where
    go : Dec (n % 2 ≡ 0) → n % 2 ≡ 1
    go (yes e) = absurd (h e)
    go (no e) = omega arith

border : (d : ℕ) (ks E : List ℕ) → OddFirst d ks E → (n : ℕ) → n ≤ d
    → ((k : ℕ) → n ≤ k → k < d → get_or ks (get_or E k 0) 0 % 2 ≡ 0) → (i : ℕ) × Border d ks E i
border d ks E f zero h ev = (zero, record { inside = omega arith; oddly = λ k q. absurd (not-suc-le-zero q); evenly = ev })
border d ks E f (suc n) h ev =
    go (ℕ_discrete (get_or ks (get_or E n 0) 0 % 2) 0) (λ more. border d ks E f n (omega arith) more)
  where
    go : Dec (get_or ks (get_or E n 0) 0 % 2 ≡ 0)
        → (((k : ℕ) → n ≤ k → k < d → get_or ks (get_or E k 0) 0 % 2 ≡ 0) → (i : ℕ) × Border d ks E i) → (i : ℕ) × Border d ks E i
    go (yes e) further = further (λ k q b. at k q b (ℕ_discrete k n))
      where
        at : (k : ℕ) → n ≤ k → k < d → Dec (k ≡ n) → get_or ks (get_or E k 0) 0 % 2 ≡ 0
        at k q b (yes g) = ap (λ c. get_or ks (get_or E c 0) 0 % 2) g ∙ e
        at k q b (no g) = ev k (omega arith) b
    go (no e) further = (
      suc n,
      record {
        inside = h;
        oddly = λ k q.
            parity (get_or ks (get_or E k 0) 0)
            (λ z. absurd (late k q z));
        evenly = ev;
      },
    )
      where
        late : (k : ℕ) → k < suc n → get_or ks (get_or E k 0) 0 % 2 ≡ 0 → ⊥
        late k q z =
            let lt = f.before n k h (omega arith) (parity (get_or ks (get_or E n 0) 0) e) z in omega arith

module _ {d : ℕ} (l : ℕ) (ks : List ℕ) {E : List ℕ} (a : Arrangement d E) (wide : length ks ≡ d)
    (fits : (j : ℕ) → j < d → get_or ks j 0 < 2 ^ l) where
  row_at_border : (i : ℕ) → Border d ks E i → row (encodedMatrix l ks a l) i ≡ ks
  row_at_border i b =
      let M = state_after (start_arranged l ks a) (encoded_bits l ks E) (length-encoded_bits l ks a) l in
      ext_get_or 0 (row (encodedMatrix l ks a l) i) ks (M.wide i b.inside ∙ sym wide)
      (λ j h.
      let q : j < d = omega (arith, M.wide i b.inside) in
      let p = place_of a j q in
      subst (λ c. entry (encodedMatrix l ks a l) i c ≡ get_or ks c 0) p.2
      (encoded-entry l ks a fits i (get_or E p.0 0) b.inside (a.inside p.0 p.1)
      ∙ at p.0 p.1 (dec_le (suc p.0) i)))
    where
      at : (k : ℕ) → k < d → Dec (k < i)
          → get_or ks (get_or E k 0) 0 + (get_or ks (get_or E k 0) 0 + count (get_or E k 0) (take i E)) % 2 ≡ get_or ks (get_or E k 0) 0
      at k q (yes g) =
          omega (
            arith,
            b.oddly k g,
            count_after E k i (omega (arith, a.long)) (a.once (get_or E k 0) (a.inside k q)) g,
          )
      at k q (no g) =
          omega (
            arith,
            b.evenly k (omega arith) q,
            count_before E k i (omega (arith, a.long)) (a.once (get_or E k 0) (a.inside k q)) (omega arith),
          )

  -- With every odd scalar's column before every even one's, the answer row is the scalars.
  pub encoded-answer : OddFirst d ks E → row (encodedMatrix l ks a l) (odds ks) ≡ ks
  encoded-answer f =
      let b = border d ks E f d (omega arith) (λ k q h. absurd (omega arith)) in
      let M = state_after (start_arranged l ks a) (encoded_bits l ks E) (length-encoded_bits l ks a) l in
      let here = row_at_border b.0 b.1 in
      ap (row (encodedMatrix l ks a l)) (sym (ap odds here) ∙ M.odd b.0 b.1.inside) ∙ here
