-- A plan's file as it is written: the start order, the bits, the last byte cleared, the trailer.
-- Assumes nothing.
use Prim.Native.Nat.{ℕ, ◌+◌, ◌-◌, ◌*◌, ◌%◌, ◌^◌, ◌≤◌, ◌<◌}
use mathlib.Core.Path.{◌≡◌, sym, ap, ap₂, ◌∙◌}
use mathlib.Core.List.{List, ◌∷◌, ◌++◌, append_assoc}
use native.Mathlib.Nat.{mul-le-mul}
use native.Mathlib.Omega.{arith}
use lib.ListN.{length, get_or, set}
use Rattle.ladder.specs.Lists.{joined}
use Rattle.ladder.specs.Numbers.{bits_at, bytes_for, bits_length, pack_bits, start_length}
use Rattle.ladder.specs.Plan.{Plan, step_bits}
use Rattle.ladder.specs.PlanFile.{mark, trailer_size, body_length, file_length, two_bytes, four_bytes, file_of}
use Rattle.ladder.specs.Refusals.{pack_refusal}
use Rattle.ladder.proofs.Bits.{bits_bound, bits_in_order}
use Rattle.ladder.proofs.Operations.{pack_none}
use Rattle.planfile.proofs.Clearing.{cleared_bits, cleared_packed}

-- The sizes of what pack accepts.
pub record Sizes (p : Plan) (file : List ℕ) : Type 0 where
  pub start : length p.start ≡ p.d
  pub bits : length p.bits ≡ bits_length p.d p.l
  pub some : 0 < length p.bits
  pub most : length p.bits ≤ 576
  pub filled : p.l * p.d ≤ 8 * length p.bits
  pub few : 8 * length p.bits - p.l * p.d < 8
  pub long : length file ≡ p.d + length p.bits + 12
  pub d_high : p.d ≤ 8
  pub l_high : p.l ≤ 576
  pub row_high : p.answer ≤ 9

module _ (p : Plan) (file : List ℕ) (judged : 0 ≡ pack_refusal p file) where
  pub sizes : Sizes p file
  unfolding bits_length bytes_for file_length body_length trailer_size start_length
  sizes =
      let ok = (pack_none p file).0 (sym judged) in
      let plan = ok.plan.plan in
      let few = bits_bound p.d p.l plan.d_high plan.l_high in
      let one = mul-le-mul plan.l_low plan.d_low in
      let bytes = ok.plan.bits in
      record {
        start = ok.plan.start;
        bits = bytes;
        some = omega arith;
        most = omega arith;
        filled = omega arith;
        few = omega arith;
        long = omega (arith, ok.file_long);
        d_high = plan.d_high;
        l_high = plan.l_high;
        row_high = omega (arith, plan.answer_high, plan.d_high);
      }

  -- The bits that are written are those of every step, packed with filling bits 0.
  packed : ((i : ℕ) → get_or p.bits i 0 < 256)
      → cleared_bits p.bits (8 * length p.bits - p.l * p.d) ≡ pack_bits (joined p.l (step_bits p))
  unfolding bits_at
  packed small =
      let s = sizes in
      cleared_packed p.bits (p.l * p.d) (8 * length p.bits - p.l * p.d) s.some (omega arith) s.few small
      ∙ sym (ap pack_bits (bits_in_order p.bits p.d p.l))

  -- What the copies leave is the plan's file.
  pub laid : ((i : ℕ) → get_or p.bits i 0 < 256)
      → {start bits : List ℕ} → start ≡ p.start → bits ≡ p.bits
      → {v : ℕ} → (let last = get_or bits (length p.bits - 1) 0 in v ≡ last - last % 2 ^ (8 * length p.bits - p.l * length p.start))
      → {ws : List ℕ} → ws ≡ p.d ∷ p.answer ∷ two_bytes p.l ++ four_bytes (length p.start + length p.bits) ++ mark
      → start ++ (set bits (length p.bits - 1) v ++ ws) ≡ file_of p
  unfolding file_of body_length
  laid small e f {v} cleared {ws} t =
      let s = sizes in
      ap₂ (λ x y. x ++ (set y (length p.bits - 1) v ++ ws)) e f
      ∙ sym (append_assoc p.start _ _)
      ∙ ap₂ (λ b w. (p.start ++ b) ++ w)
      (ap (set p.bits (length p.bits - 1)) (rw (f, s.start) at cleared) ∙ packed small)
      (t ∙ ap₂ (λ d n. p.d ∷ p.answer ∷ two_bytes p.l ++ four_bytes (d + n) ++ mark) s.start s.bits)
