-- "Encoding": from scalars, and any arrangement as end order, to a plan; the house order is one such order.
-- Assumes nothing.
use Rattle.std.specs.Prelude.{ℕ, zero, suc, ◌+◌, ◌-◌, ◌/◌, ◌%◌, ◌^◌, List, [], ◌∷◌, ◌++◌, map, reverse, get_or}
use Rattle.ladder.specs.Lists.{tabulate, joined, odds}
use Rattle.ladder.specs.Numbers.{pack_bits}
use Rattle.ladder.specs.Plan.{Plan}

-- Bit s of a scalar, counted from the top of l bits, bit 0 being 0. Of 73 = 1001001 with l 7, bits 1, 4 and 7 are 1.
unfoldable pub scalar_bit : ℕ → ℕ → ℕ → ℕ
scalar_bit l n zero = 0
scalar_bit l n (suc s) = n / 2 ^ (l - suc s) % 2

-- The exclusive or of two bits.
unfoldable pub xor : ℕ → ℕ → ℕ
xor a b = (a + b) % 2

-- The bit that step s (the rules' step s+1) deals to a scalar: its bit s+1 XOR its bit s.
unfoldable pub dealt : ℕ → ℕ → ℕ → ℕ
dealt l n s = xor (scalar_bit l n (suc s)) (scalar_bit l n s)

-- The bits of step s (the rules' step s+1) with order S: each place gets the bit dealt to the scalar of the column that stands there.
unfoldable pub deal : ℕ → List ℕ → List ℕ → ℕ → List ℕ
deal l scalars S s = map (λ j. dealt l (get_or scalars j 0) s) S

-- The columns with bit 1, in their places.
unfoldable pub picked : List ℕ → List ℕ → List ℕ
picked [] r = []
picked (j ∷ S) [] = []
picked (j ∷ S) (zero ∷ r) = picked S r
picked (j ∷ S) (suc b ∷ r) = j ∷ picked S r

-- The columns with bit 0, in their places.
unfoldable pub passed : List ℕ → List ℕ → List ℕ
passed [] r = []
passed (j ∷ S) [] = []
passed (j ∷ S) (zero ∷ r) = j ∷ passed S r
passed (j ∷ S) (suc b ∷ r) = passed S r

-- The order before a step with order S after it and bits r: the columns with bit 1 in reverse of their places, then the others.
unfoldable pub rearrange : List ℕ → List ℕ → List ℕ
rearrange S r = reverse (picked S r) ++ passed S r

-- The order when m steps are still to come: the end order, taken back through the last m steps. It is the order before the rules'
-- step l-m+1.
unfoldable pub order_to_go : ℕ → List ℕ → List ℕ → ℕ → List ℕ
order_to_go l scalars E zero = E
order_to_go l scalars E (suc m) =
    rearrange (order_to_go l scalars E m) (deal l scalars (order_to_go l scalars E m) (l - suc m))

-- The start order that scalars and an end order give.
unfoldable pub encoded_start : ℕ → List ℕ → List ℕ → List ℕ
encoded_start l scalars E = order_to_go l scalars E l

-- The bits of step s (the rules' step s+1) that scalars and an end order give.
unfoldable pub encoded_bits : ℕ → List ℕ → List ℕ → ℕ → List ℕ
encoded_bits l scalars E s = deal l scalars (order_to_go l scalars E (l - suc s)) s

-- The plan that scalars and an end order give. The answer row is 1 + the number of odd scalars.
unfoldable pub encode_with : ℕ → ℕ → List ℕ → List ℕ → Plan
encode_with d l scalars E = record {
  d = d;
  l = l;
  start = map suc (encoded_start l scalars E);
  bits = pack_bits (joined l (encoded_bits l scalars E));
  answer = suc (odds scalars);
}

-- The house order: columns with odd scalars rising, then columns with even scalars rising. For 1, 2, 3 it is 1 3 2 (here 0 2 1).
unfoldable pub house_order : ℕ → List ℕ → List ℕ
house_order d scalars =
    picked (tabulate d (λ j. j)) (map (λ n. n % 2) scalars) ++ passed (tabulate d (λ j. j)) (map (λ n. n % 2) scalars)

-- The plan of d scalars of l bits. For 2, 1 with l 2: start 1 2, bits B0, answer row 2.
unfoldable pub encode : ℕ → ℕ → List ℕ → Plan
encode d l scalars = encode_with d l scalars (house_order d scalars)
