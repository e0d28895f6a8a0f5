-- Unpacking what pack wrote, with anything before it, gives the same numbers, start order and plan bits, and refuses nothing.
-- Assumes nothing.
use Prim.Native.Nat.{ℕ, ◌+◌, ◌*◌, ◌<◌}
use mathlib.Core.Path.{◌≡◌, refl, sym, ap, ap₂, subst, ◌∙◌}
use mathlib.Core.List.{List, ◌∷◌, ◌++◌, map, append_assoc}
use native.Mathlib.Nat.{mul-le-mul}
use native.Mathlib.Omega.{arith}
use lib.ListN.{length, take, drop, length-append}
use lib.Seq.{take_at, drop_at}
use Rattle.ladder.specs.Lists.{joined}
use Rattle.ladder.specs.Numbers.{bit_at, bytes_for, pack_bits, bits_length}
use Rattle.ladder.specs.Plan.{Plan, start_order, step_bits}
use Rattle.ladder.specs.PlanFile.{mark, trailer_size, body_length, file_length, trailer_byte, d_in, answer_in, l_in, distance_in, mark_in, body_place, body_in, plan_in, two_bytes, four_bytes, file_of}
use Rattle.ladder.specs.Refusals.{unpack_refusal}
use Rattle.ladder.proofs.Bits.{length-step_bits, packed_bit}
use Rattle.ladder.proofs.Refusals.{Accepted}
use Rattle.ladder.proofs.Operations.{unpack_none}
use Rattle.ladder.proofs.SamePlan.{SamePlan, same_start}
use Rattle.ladder.proofs.Lengths.{packed_length, start_long_lem, file_length_lem}
use Rattle.ladder.proofs.Prefaces.{byte_after, mark_after}

-- A plan that says the same as an accepted one is accepted.
pub accepted_same : {q p : Plan} → SamePlan q p → Accepted p → Accepted q
unfolding start_order
accepted_same {q} {p} e ok = record {
  d_low = rw e.d ok.d_low;
  d_high = rw e.d ok.d_high;
  l_low = rw e.l ok.l_low;
  l_high = rw e.l ok.l_high;
  start = rw (e.d, same_start q p e) ok.start;
  columns = e.start ∙ ok.columns ∙ ap (map _) (sym (same_start q p e));
  answer_low = rw e.answer ok.answer_low;
  answer_high = rw (e.answer, e.d) ok.answer_high;
}

-- ---- a plan's file, with anything before it (pre is [] where nothing is)

-- The bits that pack writes.
abbrev packed_bits : Plan → List ℕ
packed_bits p = pack_bits (joined p.l (step_bits p))

-- The trailer that pack writes.
abbrev pub trailer_of : Plan → List ℕ
trailer_of p = p.d ∷ p.answer ∷ two_bytes p.l ++ four_bytes (body_length p.d p.l) ++ mark

module _ (p : Plan) (ok : Accepted p) (pre : List ℕ) where
  parts : pre ++ file_of p ≡ (pre ++ (p.start ++ packed_bits p)) ++ trailer_of p
  unfolding file_of
  parts = sym (append_assoc pre (p.start ++ packed_bits p) (trailer_of p))

  byte : (i : ℕ) → trailer_byte (pre ++ file_of p) i ≡ trailer_byte (trailer_of p) i
  unfolding two_bytes four_bytes mark
  byte i = ap (λ f. trailer_byte f i) parts ∙ byte_after (pre ++ (p.start ++ packed_bits p)) (trailer_of p) (omega arith) i

  -- The trailer has the plan's d ..
  pub d_back : d_in (pre ++ file_of p) ≡ p.d
  unfolding d_in trailer_byte trailer_size two_bytes four_bytes mark
  d_back = byte 0

  -- .. its answer row ..
  pub answer_back : answer_in (pre ++ file_of p) ≡ p.answer
  unfolding answer_in trailer_byte trailer_size two_bytes four_bytes mark
  answer_back = byte 1

  -- .. its l ..
  pub l_back : l_in (pre ++ file_of p) ≡ p.l
  unfolding l_in trailer_byte trailer_size two_bytes four_bytes mark
  l_back = omega (arith, byte 2, byte 3, ok.l_high)

  -- .. its body's length ..
  pub distance_back : distance_in (pre ++ file_of p) ≡ body_length p.d p.l
  unfolding distance_in trailer_byte trailer_size two_bytes four_bytes mark body_length bits_length bytes_for
  distance_back = omega (arith, byte 4, byte 5, byte 6, byte 7, ok.d_high, mul-le-mul ok.l_high ok.d_high)

  -- .. and the mark.
  pub mark_back : mark_in (pre ++ file_of p) ≡ mark
  unfolding mark_in two_bytes four_bytes mark
  mark_back = ap mark_in parts ∙ mark_after (pre ++ (p.start ++ packed_bits p)) (trailer_of p) (omega arith)

  long : length (pre ++ file_of p) ≡ length pre + (body_length p.d p.l + trailer_size)
  unfolding file_length
  long = length-append pre (file_of p) ∙ ap (λ n. length pre + n) (file_length_lem p (start_long_lem p ok))

  -- The body begins after what stands before it ..
  pub place_back : body_place (pre ++ file_of p) ≡ length pre
  unfolding body_place
  place_back = omega (arith, long, distance_back)

  -- .. and is the start order, then the bits.
  pub body_back : body_in (pre ++ file_of p) ≡ p.start ++ pack_bits (joined p.l (step_bits p))
  unfolding body_in file_of body_length
  body_back =
      ap₂ (λ n m. take n (drop m (pre ++ file_of p))) distance_back place_back
      ∙ ap (take (body_length p.d p.l)) (drop_at pre (file_of p) (length pre) refl)
      ∙ take_at (p.start ++ packed_bits p) (trailer_of p) (body_length p.d p.l)
      (simp length-append (omega (arith, start_long_lem p ok, packed_length p.d p.l (step_bits p) (length-step_bits p))))

  -- The bits that it holds are those of every step, packed with filling bits 0.
  pub packed_back : (plan_in (pre ++ file_of p)).bits ≡ pack_bits (joined p.l (step_bits p))
  unfolding plan_in
  packed_back = ap₂ drop d_back body_back ∙ drop_at p.start (packed_bits p) p.d (start_long_lem p ok)

  -- So it holds the same plan: d, l, start order, answer row and the bits of every step.
  pub plan_back : SamePlan (plan_in (pre ++ file_of p)) p
  unfolding plan_in
  plan_back = record {
    d = d_back;
    l = l_back;
    start = ap₂ take d_back body_back ∙ take_at p.start (packed_bits p) p.d (start_long_lem p ok);
    bits = λ n h.
        ap (λ b. bit_at b n) packed_back
        ∙ packed_bit p.bits p.d p.l n (subst (λ k. n < k) (ap₂ (λ l d. l * d) l_back d_back) h);
    answer = answer_back;
  }

  -- Unpacking it refuses nothing.
  pub unpack_packed : unpack_refusal (pre ++ file_of p) ≡ 0
  unfolding trailer_size
  unpack_packed =
      (unpack_none (pre ++ file_of p)).1 (record {
        twelve = omega (arith, long);
        marked = mark_back;
        far = distance_back ∙ sym (ap₂ body_length d_back l_back);
        before = omega (arith, long, distance_back);
        plan = accepted_same plan_back ok;
      })
