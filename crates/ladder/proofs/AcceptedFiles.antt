-- A file that unpack accepts: its body's length, the plan that it holds, and its last bytes, which are what pack writes for that plan up
-- to filling.
-- Assumes nothing.
use Prim.Native.Nat.{ℕ, zero, suc, ◌+◌, ◌-◌, ◌*◌, ◌≤◌, ◌<◌}
use mathlib.Core.Path.{◌≡◌, refl, sym, ap, ap₂, subst, ◌∙◌}
use mathlib.Core.Logic.Iff
use mathlib.Core.Logic.{◌≢◌, ◌↔◌}
use mathlib.Core.List.{List, [], ◌∷◌, ◌++◌, append_assoc}
use native.Mathlib.Nat.{mul-le-mul}
use native.Mathlib.Omega.{arith}
use lib.ListN.{length, get_or, take, drop, length-drop, take-append-drop}
use lib.Seq.{length-take-le, take_at, drop_at, get_or-take, get_or-drop, drop-drop}
use Rattle.ladder.specs.Lists.{tabulate, joined}
use Rattle.ladder.specs.Numbers.{bit_at, bytes_for, bits_length, start_length, pack_bits}
use Rattle.ladder.specs.Plan.{step_bits}
use Rattle.ladder.specs.PlanFile.{mark, trailer_size, body_length, file_length, trailer_byte, d_in, answer_in, l_in, distance_in, mark_in, body_place, body_in, plan_in, two_bytes, four_bytes, file_of}
use Rattle.ladder.specs.Refusals.{plan_shape}
use Rattle.ladder.proofs.Lists.{tabulate-same, tabulate-get_or}
use Rattle.ladder.proofs.Numbers.{take_below, drop_below}
use Rattle.ladder.proofs.Bits.{bit_at-append, bits_within, length-step_bits, packed_bit, packed_byte, packed_same}
use Rattle.ladder.proofs.Tests.{none_then}
use Rattle.ladder.proofs.Refusals.{shape_none}
use Rattle.ladder.proofs.Operations.{PlanOk, UnpackOk}
use Rattle.ladder.proofs.Lengths.{packed_length, start_long_lem}
use Rattle.ladder.proofs.Files.{trailer_of}

-- A file from its body on, by what its trailer says.
abbrev pub from_body : List ℕ → List ℕ
from_body file = drop (length file - file_length (d_in file) (l_in file)) file

-- ---- lists

-- The first eight elements of a list, one by one.
eight : (T : List ℕ) → 8 ≤ length T → T ≡ tabulate 8 (λ i. get_or T i 0) ++ drop 8 T
eight T h =
    sym (take-append-drop 8 T)
    ∙ ap (λ s. s ++ drop 8 T)
    (sym (tabulate-get_or (take 8 T) 0)
    ∙ ap (λ n. tabulate n (λ i. get_or (take 8 T) i 0)) (length-take-le 8 T h)
    ∙ tabulate-same 8 (λ i. get_or (take 8 T) i 0) (λ i. get_or T i 0) (λ i l. get_or-take 8 T i 0 l))

-- Two lists between the same are equal exactly where the wholes are.
between : (front a b back : List ℕ) → length a ≡ length b → front ++ a ++ back ≡ front ++ b ++ back ↔ b ≡ a
between front a b back e = (
  λ same. sym (middle b refl) ∙ ap (λ l. take (length b) (drop (length front) l)) (sym same) ∙ middle a e,
  λ same. ap (λ m. front ++ m ++ back) (sym same),
)
  where
    middle : (m : List ℕ) → length m ≡ length b → take (length b) (drop (length front) (front ++ m ++ back)) ≡ m
    middle m f =
        ap (λ l. take (length b) (drop (length front) l)) (append_assoc front m back)
        ∙ ap (take (length b)) (drop_at front (m ++ back) (length front) refl)
        ∙ take_at m back (length b) f

-- Lists with the same front and back are equal at a place where what stands between is.
apart : (front a b back : List ℕ) → length a ≡ length b → (i : ℕ)
    → ((j : ℕ) → j < length a → i ≡ length front + j → get_or a j 0 ≡ get_or b j 0) → get_or (front ++ a ++ back) i 0 ≡ get_or (front ++ b ++ back) i 0
apart [] [] [] back e i h = refl
apart [] [] (y ∷ b) back e i h = absurd (omega arith)
apart [] (x ∷ a) [] back e i h = absurd (omega arith)
apart [] (x ∷ a) (y ∷ b) back e zero h = h zero (omega arith) (omega arith)
apart [] (x ∷ a) (y ∷ b) back e (suc i) h = apart [] a b back (omega arith) i (λ j l f. h (suc j) (omega arith) (omega arith))
apart (c ∷ front) a b back e zero h = refl
apart (c ∷ front) a b back e (suc i) h = apart front a b back e i (λ j l f. h j l (omega arith))

-- The bits behind the first of three lists are those of the second, as far as it goes.
bit_behind : (front m back : List ℕ) (d n : ℕ) → length front ≡ d → n < 8 * length m → bit_at (drop d (front ++ m ++ back)) n ≡ bit_at m n
bit_behind front m back d n e h =
    ap (λ s. bit_at (drop d s) n) (append_assoc front m back)
    ∙ ap (λ s. bit_at s n) (drop_at front (m ++ back) d e)
    ∙ bit_at-append m back n h

-- Two bytes of a number, low byte first ..
two_back : (a b : ℕ) → a < 256 → b < 256 → a ∷ b ∷ [] ≡ two_bytes (a + 256 * b)
unfolding two_bytes
two_back a b ha hb = ap₂ (λ m n. m ∷ n ∷ []) (omega arith) (omega arith)

-- .. and four.
four_back : (a b c d : ℕ) → a < 256 → b < 256 → c < 256 → d < 256
    → a ∷ b ∷ c ∷ d ∷ [] ≡ four_bytes (a + 256 * b + 65536 * c + 16777216 * d)
unfolding two_bytes four_bytes
four_back a b c d ha hb hc hd =
    ap₂ (λ s t. s ++ t) {x = a ∷ b ∷ []} (ap₂ (λ m n. m ∷ n ∷ []) (omega arith) (omega arith)) (ap₂ (λ m n. m ∷ n ∷ []) (omega arith) (omega arith))

-- ---- the body and the plan

module _ (file : List ℕ) (ok : UnpackOk file) where
  -- The body has its length ..
  pub body_long : length (body_in file) ≡ body_length (d_in file) (l_in file)
  unfolding body_in body_place trailer_size
  body_long =
      length-take-le (distance_in file) (drop (body_place file) file) (simp length-drop (omega (arith, ok.before))) ∙ ok.far

  -- .. which is 2 or more.
  pub body_two : 2 ≤ length (body_in file)
  unfolding plan_in body_length bits_length bytes_for
  body_two = omega (arith, body_long, ok.plan.d_low, mul-le-mul ok.plan.l_low ok.plan.d_low)

  -- The plan that it holds is one that a call reads ..
  pub held_ok : PlanOk (plan_in file)
  unfolding plan_in body_length start_length
  held_ok = record {
    plan = ok.plan;
    start = start_long_lem (plan_in file) ok.plan;
    bits = simp length-drop (omega (arith, body_long));
  }

  -- .. and so its buffers are not refused.
  pub held_shape : plan_shape (plan_in file) ≡ 0
  unfolding plan_shape
  held_shape = none_then _ _ ((shape_none _ _).1 held_ok.start) ((shape_none _ _).1 held_ok.bits)

  -- As many bytes are packed of its bits.
  packed_long : length (pack_bits (joined (plan_in file).l (step_bits (plan_in file)))) ≡ bits_length (plan_in file).d (plan_in file).l
  packed_long = packed_length (plan_in file).d (plan_in file).l (step_bits (plan_in file)) (length-step_bits (plan_in file))

  -- ---- the last bytes

  -- The body begins where as many bytes are left as a file of nothing else has.
  pub tail_place : length file - file_length (d_in file) (l_in file) ≡ body_place file
  unfolding file_length body_place
  tail_place = omega (arith, ok.far)

  module _ (bytes : (i : ℕ) → get_or file i 0 < 256) where
    small : (i : ℕ) → trailer_byte file i < 256
    unfolding trailer_byte
    small i = bytes (length file - trailer_size + i)

    -- The trailer is the one that pack writes.
    trailer_is : drop (length file - 12) file ≡ trailer_of (plan_in file)
    unfolding plan_in d_in answer_in l_in distance_in trailer_byte trailer_size mark_in tabulate
    trailer_is =
        let T = drop (length file - 12) file in
        let back : length file - 12 + 8 ≡ length file - 4 = omega (arith, ok.twelve) in
        eight T (simp length-drop (omega (arith, ok.twelve)))
        ∙ ap₂ (λ s t. s ++ t) (tabulate-same 8 (λ i. get_or T i 0) (trailer_byte file) (λ i h. get_or-drop (length file - 12) file i 0))
        (drop-drop 8 (length file - 12) file ∙ ap (λ n. drop n file) back ∙ ok.marked)
        ∙ ap₂ (λ s t. d_in file ∷ answer_in file ∷ s ++ t ++ mark) (two_back _ _ (small 2) (small 3))
        (four_back _ _ _ _ (small 4) (small 5) (small 6) (small 7) ∙ ap four_bytes ok.far)

    -- So from the body on the file is the start order, the bits and that trailer ..
    pub tail_is : from_body file ≡ (plan_in file).start ++ (plan_in file).bits ++ trailer_of (plan_in file)
    unfolding plan_in body_in body_place trailer_size
    tail_is =
        let on : length file - 12 - distance_in file + distance_in file ≡ length file - 12 = omega (arith, ok.before) in
        ap (λ n. drop n file) tail_place
        ∙ sym (take-append-drop (distance_in file) (drop (body_place file) file))
        ∙ ap₂ (λ s t. s ++ t) (sym (take-append-drop (d_in file) (body_in file)))
        (drop-drop (distance_in file) (body_place file) file ∙ ap (λ n. drop n file) on ∙ trailer_is)

    bits_small : (i : ℕ) → get_or (plan_in file).bits i 0 < 256
    unfolding plan_in body_in
    bits_small = drop_below 256 (d_in file) _ (take_below 256 (distance_in file) _ (drop_below 256 (body_place file) file bytes))

    -- Byte j of the bits, where it is not their last, has plan bits alone.
    whole : (i j : ℕ) → i ≢ body_length (d_in file) (l_in file) - 1 → j < length (plan_in file).bits → i ≡ length (plan_in file).start + j
        → 8 * j + 8 ≤ (plan_in file).l * (plan_in file).d
    unfolding plan_in body_length bits_length bytes_for start_length
    whole i j ne h e = omega (arith, held_ok.bits, held_ok.start)

    -- .. which is what pack writes in each of the l * d plan bits ..
    pub tail_bit : (n : ℕ) → n < l_in file * d_in file → bit_at (drop (d_in file) (from_body file)) n ≡ bit_at (drop (d_in file) (file_of (plan_in file))) n
    unfolding plan_in file_of start_length
    tail_bit n h =
        let p = plan_in file in
        ap (λ s. bit_at (drop p.d s) n) tail_is
        ∙ bit_behind p.start p.bits (trailer_of p) p.d n held_ok.start (bits_within p.d p.l n held_ok.bits h)
        ∙ sym (packed_bit p.bits p.d p.l n h)
        ∙ sym (bit_behind p.start _ (trailer_of p) p.d n held_ok.start (bits_within p.d p.l n packed_long h))

    -- .. in every byte but the last of the body ..
    pub tail_byte : (i : ℕ) → i ≢ body_length (d_in file) (l_in file) - 1
        → get_or (from_body file) i 0 ≡ get_or (file_of (plan_in file)) i 0
    unfolding file_of
    tail_byte i ne =
        let p = plan_in file in
        ap (λ s. get_or s i 0) tail_is
        ∙ apart p.start p.bits (pack_bits (joined p.l (step_bits p))) (trailer_of p) (held_ok.bits ∙ sym packed_long) i
        (λ j h e. sym (packed_byte p.bits p.d p.l bits_small j (whole i j ne h e)))

    -- .. and wholly exactly where the filling bits are 0.
    pub tail_packed : from_body file ≡ file_of (plan_in file)
        ↔ ((n : ℕ) → l_in file * d_in file ≤ n → bit_at (plan_in file).bits n ≡ 0)
    unfolding file_of plan_in l_in
    tail_packed =
        let p = plan_in file in
        subst (λ l. l ≡ file_of p ↔ ((n : ℕ) → p.l * p.d ≤ n → bit_at p.bits n ≡ 0)) (sym tail_is)
        (Iff.trans (between p.start p.bits (pack_bits (joined p.l (step_bits p))) (trailer_of p) (held_ok.bits ∙ sym packed_long))
        (packed_same p.bits p.d p.l bits_small held_ok.bits))
