-- The texts of the listing: how long each line is at the most, so that every listing fits into 8,589 characters.
-- Assumes nothing.
use Prim.Native.Nat.{ℕ, zero, suc, ◌+◌, ◌*◌, ◌^◌, ◌≤◌, ◌<◌}
use mathlib.Core.Path.{◌≡◌, refl, sym, ap, ◌∙◌}
use mathlib.Core.Logic.{◌⊎◌, inl, inr}
use mathlib.Core.List.{List, [], ◌∷◌, ◌++◌, map, flatten}
use native.Mathlib.Nat.{pow-suc, suc-mul}
use native.Mathlib.Omega.{arith}
use lib.ListN.{length, get_or, length-append, length-map}
use lib.Pow.{pow-lt, pow-add}
use Rattle.ladder.specs.Lists.{joined}
use Rattle.ladder.specs.Numbers.{longest_text}
use Rattle.ladder.specs.Plan.{Plan, start_order, step_bits, answer_row}
use Rattle.ladder.specs.PlanFile.{plan_in}
use Rattle.ladder.specs.Refusals.{◌then◌, refusing, list_refusal}
use Rattle.ladder.specs.Listing.{digits_within, digits_of, character, decimal, hexadecimal, spaced, line, plan_word, start_word, value_word, refused_word, plan_line, start_line, step_line, value_line, plan_text, refused_text, listing_text}
use Rattle.ladder.proofs.Lists.{get_or-map, length-joined_mono}
use Rattle.ladder.proofs.Bits.{length-step_bits}
use Rattle.ladder.proofs.Refusals.{Accepted, dim_is, len_is, order_is, answer_is, trailer_is, distance_is, big_is}
use Rattle.ladder.proofs.Chains.{read_chain, unpack_chain, list_chain}
use Rattle.ladder.proofs.Operations.{list_none}
use Rattle.ladder.proofs.Demand2.{answer_wide, answer_bound}
use Rattle.ladder.proofs.Lengths.{start_long_lem}
use Rattle.ladder.proofs.Numerals.{digits_length}

-- ---- numbers

-- A decimal number below a power of ten has no more digits than that has places.
pub length-decimal : (k n : ℕ) → n < 10 ^ suc k → length (decimal n) ≤ suc k
unfolding decimal
length-decimal k n h = omega (arith, length-map (digits_of 10 n) character, digits_length 10 (omega arith) k n h)

-- A hexadecimal digit is four bits.
pub hex_power : (k : ℕ) → 16 ^ k ≡ 2 ^ (4 * k)
hex_power zero = refl
hex_power (suc k) =
    let more : 4 * k + 4 ≡ 4 * suc k = omega arith in
    pow-suc 16 k ∙ ap (λ n. n * 16) (hex_power k) ∙ sym (pow-add 2 (4 * k) 4) ∙ ap (λ e. 2 ^ e) more

-- A hexadecimal number of at most 2^l has a digit for each four bits, and one that holds the 1 of 2^l.
pub length-hexadecimal : (k l n : ℕ) → l < 4 * suc k → n ≤ 2 ^ l → length (hexadecimal n) ≤ suc k
unfolding hexadecimal
length-hexadecimal k l n h b =
    let below : n < 16 ^ suc k = rw (hex_power (suc k)) (omega (arith, pow-lt h)) in
    omega (arith, length-map (digits_of 16 n) character, digits_length 16 (omega arith) k n below)

-- ---- lines

-- No fields take no room ..
length-spaced_none : length (spaced []) ≡ 0
unfolding spaced flatten
length-spaced_none = refl

-- .. and one more takes its own, and that of a space.
length-spaced_more : (field : List ℕ) (fields : List (List ℕ)) → length (spaced (field ∷ fields)) ≡ suc (length field) + length (spaced fields)
unfolding spaced flatten
length-spaced_more field fields = length-append (32 ∷ field) (spaced fields)

-- Fields of at most b characters each.
length-spaced : (b : ℕ) (fields : List (List ℕ)) → ((i : ℕ) → i < length fields → length (get_or fields i []) ≤ b)
    → length (spaced fields) ≤ length fields * suc b
length-spaced b [] h = omega (arith, length-spaced_none)
length-spaced b (field ∷ fields) h =
    omega (
      arith,
      length-spaced_more field fields,
      h zero (omega arith),
      length-spaced b fields (λ i l. h (suc i) (omega arith)),
      suc-mul (length fields) (suc b),
    )

-- A line takes the room of its first field, of its further fields and of the newline.
length-line : (first : List ℕ) (fields : List (List ℕ)) → length (line first fields) ≡ length first + length (spaced fields) + 1
unfolding line
length-line first fields = omega (arith, length-append first (spaced fields ++ (10 ∷ [])), length-append (spaced fields) (10 ∷ []))

-- ---- the lines of a plan

module _ (p : Plan) (ok : Accepted p) where
  -- `plan 8 576 9`
  plan_line_lem : length (plan_line p) ≤ 13
  unfolding plan_line plan_word
  plan_line_lem =
      omega (
        arith,
        ok.d_high,
        ok.l_high,
        ok.answer_high,
        length-line plan_word (decimal p.d ∷ decimal p.l ∷ decimal p.answer ∷ []),
        length-spaced_more (decimal p.d) (decimal p.l ∷ decimal p.answer ∷ []),
        length-spaced_more (decimal p.l) (decimal p.answer ∷ []),
        length-spaced_more (decimal p.answer) [],
        length-spaced_none,
        length-decimal 0 p.d (omega (arith, ok.d_high)),
        length-decimal 2 p.l (omega (arith, ok.l_high)),
        length-decimal 0 p.answer (omega (arith, ok.d_high, ok.answer_high)),
      )

  -- A column has one digit.
  pub column : (i : ℕ) → i < length p.start → get_or p.start i 0 < 10
  column i h =
      let inside : i < length (start_order p) = omega (arith, ap length ok.columns, length-map (start_order p) suc) in
      omega (
        arith,
        ok.d_high,
        ok.start.inside i (omega (arith, ok.start.long)),
        ap (λ S. get_or S i 0) ok.columns,
        get_or-map suc (start_order p) i 0 0 inside,
      )

  -- `start 1 2 3 4 5 6 7 8`
  start_line_lem : length (start_line p) ≤ 22
  unfolding start_line start_word
  start_line_lem =
      omega (
        arith,
        ok.d_high,
        start_long_lem p ok,
        length-line start_word (map decimal p.start),
        length-map p.start decimal,
        length-spaced 1 (map decimal p.start) (λ i h. digit i (omega (arith, length-map p.start decimal))),
      )
    where
      digit : (i : ℕ) → i < length p.start → length (get_or (map decimal p.start) i []) ≤ 1
      digit i h = rw (get_or-map decimal p.start i 0 [] h) (length-decimal 0 (get_or p.start i 0) (column i h))

  -- A step's line is its number and ten characters more at the most.
  step_line_lem : (s : ℕ) → length (step_line p s) ≤ length (decimal (suc s)) + 10
  unfolding step_line
  step_line_lem s =
      omega (
        arith,
        ok.d_high,
        length-line (decimal (suc s)) (map character (step_bits p s) ∷ []),
        length-spaced_more (map character (step_bits p s)) [],
        length-spaced_none,
        length-map (step_bits p s) character,
        length-step_bits p s,
      )

  step_lines : (l : ℕ) → length (joined l (step_line p)) ≤ length (joined l (λ s. decimal (suc s))) + l * 10
  unfolding joined
  step_lines zero = omega arith
  step_lines (suc l) =
      omega (
        arith,
        step_line_lem l,
        step_lines l,
        length-append (joined l (step_line p)) (step_line p l),
        length-append (joined l (λ s. decimal (suc s))) (decimal (suc l)),
      )

  -- `value` and the entries.
  value_line_lem : length (value_line p) ≤ 1174
  unfolding value_line value_word
  value_line_lem =
      omega (
        arith,
        ok.d_high,
        answer_wide p ok,
        length-line value_word (map hexadecimal (answer_row p)),
        length-map (answer_row p) hexadecimal,
        length-spaced 145 (map hexadecimal (answer_row p)) (λ i h. entry i (omega (arith, length-map (answer_row p) hexadecimal))),
      )
    where
      entry : (i : ℕ) → i < length (answer_row p) → length (get_or (map hexadecimal (answer_row p)) i []) ≤ 145
      entry i h =
          rw (get_or-map hexadecimal (answer_row p) i 0 [] h)
          (length-hexadecimal 144 p.l (get_or (answer_row p) i 0) (omega (arith, ok.l_high)) (answer_bound p ok i))

-- The numbers 1 to 576 have 1,620 digits.
all_numbers : length (joined 576 (λ s. decimal (suc s))) ≡ 1620
unfolding joined decimal digits_of digits_within
all_numbers = refl

-- ---- every text fits

-- The listing of a plan that is not refused.
pub plan_text_fits : (p : Plan) → Accepted p → length (plan_text p) ≤ longest_text
unfolding plan_text longest_text
plan_text_fits p ok =
    let steps = joined p.l (step_line p) in
    omega (
      arith,
      ok.l_high,
      length-append (plan_line p) (start_line p ++ (steps ++ value_line p)),
      length-append (start_line p) (steps ++ value_line p),
      length-append steps (value_line p),
      plan_line_lem p ok,
      start_line_lem p ok,
      step_lines p ok p.l,
      length-joined_mono (λ s. decimal (suc s)) p.l 576 ok.l_high,
      all_numbers,
      value_line_lem,
    )

-- The listing of a refusal.
pub refused_text_fits : (n : ℕ) → n < 1000 → length (refused_text n) ≤ 12
unfolding refused_text refused_word
refused_text_fits n h =
    omega (
      arith,
      length-line refused_word (decimal n ∷ []),
      length-spaced_more (decimal n) [],
      length-spaced_none,
      length-decimal 2 n h,
    )

at_most : (b m k : ℕ) → (m ≡ 0) ⊎ (m ≡ k) → k ≤ b → m ≤ b
at_most b m k (inl e) h = omega arith
at_most b m k (inr e) h = omega arith

then_most : (b m n : ℕ) → m ≤ b → n ≤ b → (m then n) ≤ b
unfolding ◌then◌
then_most b zero n h g = g
then_most b (suc m) n h g = h

-- No refusal of the listing has more than two digits.
pub list_refusal_small : (file : List ℕ) → list_refusal file ≤ 99
list_refusal_small file =
    let p = plan_in file in
    rw (list_chain file, unpack_chain file, read_chain p)
    (then_most 99 _ _ (at_most 99 _ 10 (big_is file) (omega arith))
    (then_most 99 _ _ (at_most 99 _ 9 (trailer_is file) (omega arith))
    (then_most 99 _ _ (at_most 99 _ 1 (dim_is p.d) (omega arith))
    (then_most 99 _ _ (at_most 99 _ 2 (len_is p.l) (omega arith))
    (then_most 99 _ _ (at_most 99 _ 9 (distance_is file) (omega arith))
    (then_most 99 _ _ (at_most 99 _ 5 (order_is p.d p.start) (omega arith))
    (at_most 99 _ 6 (answer_is p.d p.answer) (omega arith))))))))

-- The listing of any bytes.
pub listing_fits : (file : List ℕ) → length (listing_text file) ≤ longest_text
unfolding listing_text refusing longest_text
listing_fits file = go (list_refusal file) refl
  where
    go : (n : ℕ) → list_refusal file ≡ n → length (refusing n (refused_text n) (plan_text (plan_in file))) ≤ longest_text
    go zero e = plan_text_fits (plan_in file) ((list_none file).0 e).unpack.plan
    go (suc n) e = omega (arith, refused_text_fits (suc n) (omega (arith, list_refusal_small file)))
