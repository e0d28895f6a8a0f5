-- Unpacking what pack wrote, and packing what a file holds: from the promises alone.
-- Assumes nothing.
use Prim.Native.Nat.{ℕ, ◌+◌, ◌-◌, ◌*◌, ◌≤◌, ◌<◌}
use mathlib.Core.Path.{◌≡◌, sym, ap, subst, ◌∙◌}
use mathlib.Core.Logic.{◌≢◌, ◌↔◌}
use mathlib.Core.List.{List, [], ◌++◌}
use native.Mathlib.Nat.{add-zero}
use native.Mathlib.Omega.{arith}
use lib.ListN.{length, get_or, take, drop, length-drop}
use lib.Seq.{take_at, drop_at}
use Rattle.ladder.specs.Lists.{joined}
use Rattle.ladder.specs.Numbers.{bit_at, start_length, pack_bits}
use Rattle.ladder.specs.Plan.{Plan, step_bits}
use Rattle.ladder.specs.PlanFile.{d_in, l_in, answer_in, trailer_size, body_length, file_length, body_place, body_in, plan_in, file_of}
use Rattle.ladder.proofs.Bits.{packed_bit, packed_same}
use Rattle.ladder.proofs.Lengths.{start_long_lem, file_length_lem}
use Rattle.ladder.proofs.Operations.{PackOk, UnpackOk, unpack_none}
use Rattle.ladder.proofs.Files.{trailer_of, d_back, answer_back, l_back, place_back, body_back, unpack_packed}
use Rattle.ladder.proofs.AcceptedFiles.{from_body, held_ok, tail_is, tail_bit, tail_byte, tail_packed}
use Rattle.planfile.specs.declared.unpacking.Unpacked.{Unpacked}
use Rattle.planfile.specs.Promise.{PackPromise, UnpackPromise, BodyPromise}
use Rattle.planfile.proofs.Promised.{pack_accepted, unpack_accepted, body_accepted}

-- ---- unpacking what pack wrote

module _ {p : Plan} {file : List ℕ} {r : ℕ} {fileAfter : List ℕ} (packed : PackPromise p file r fileAfter) (ok : PackOk p file) where
  -- Unpack accepts it ..
  pub packed_accepted : UnpackOk fileAfter
  packed_accepted = subst UnpackOk (sym (pack_accepted packed ok).1) ((unpack_none (file_of p)).0 (unpack_packed p ok.plan.plan []))

  -- .. and answers the plan's numbers.
  pub unpack_of_packed : {n : ℕ} {u : Unpacked} → UnpackPromise fileAfter n u
      → (n ≡ 0) × (u.d ≡ p.d) × (u.l ≡ p.l) × (u.row ≡ p.answer)
  unpack_of_packed promise =
      let t = unpack_accepted promise packed_accepted in
      let e = (pack_accepted packed ok).1 in
      let plan = ok.plan.plan in
      (t.0, t.1 ∙ ap d_in e ∙ d_back p plan [], t.2 ∙ ap l_in e ∙ l_back p plan [], t.3 ∙ ap answer_in e ∙ answer_back p plan [])

  module _ {place : ℕ × ℕ} {part : List ℕ} {partPlace : ℕ × ℕ} (promise : BodyPromise fileAfter place part partPlace) where
    -- The body begins where the file does, and is the start order, then the bits, packed with filling bits 0; ..
    pub body_of_packed : (part ≡ p.start ++ pack_bits (joined p.l (step_bits p))) × (partPlace.0 ≡ place.0) × (partPlace.1 ≡ place.1)
    body_of_packed =
        let t = body_accepted promise packed_accepted in
        let e = (pack_accepted packed ok).1 in (
          t.0 ∙ ap body_in e ∙ body_back p ok.plan.plan [],
          t.1,
          t.2 ∙ ap (λ n. place.1 + n) (ap body_place e ∙ place_back p ok.plan.plan []) ∙ add-zero place.1,
        )

    -- .. so its first d bytes are the plan's start order ..
    pub start_of_packed : take p.d part ≡ p.start
    unfolding start_length
    start_of_packed = ap (take p.d) body_of_packed.0 ∙ take_at p.start _ p.d ok.plan.start

    bits_after : drop p.d part ≡ pack_bits (joined p.l (step_bits p))
    unfolding start_length
    bits_after = ap (drop p.d) body_of_packed.0 ∙ drop_at p.start _ p.d ok.plan.start

    -- .. each of the l * d plan bits after them is the plan's ..
    pub bits_of_packed : (n : ℕ) → n < p.l * p.d → bit_at (drop p.d part) n ≡ bit_at p.bits n
    bits_of_packed n h = ap (λ b. bit_at b n) bits_after ∙ packed_bit p.bits p.d p.l n h

    -- .. and the bytes after them are the plan's exactly where its filling bits were 0.
    pub bytes_of_packed : ((i : ℕ) → get_or p.bits i 0 < 256)
        → drop p.d part ≡ p.bits ↔ ((n : ℕ) → p.l * p.d ≤ n → bit_at p.bits n ≡ 0)
    bytes_of_packed bytes =
        subst (λ b. b ≡ p.bits ↔ ((n : ℕ) → p.l * p.d ≤ n → bit_at p.bits n ≡ 0)) (sym bits_after)
        (packed_same p.bits p.d p.l bytes ok.plan.bits)

-- ---- packing what a file holds

module _ {file buffer : List ℕ} {r : ℕ} {after : List ℕ} (promise : PackPromise (plan_in file) buffer r after) (ok : UnpackOk file)
    (room : length buffer ≡ file_length (d_in file) (l_in file)) where
  -- The plan that an accepted file holds is packed ..
  pub repacked_accepted : (r ≡ 0) × (after ≡ file_of (plan_in file))
  unfolding plan_in
  repacked_accepted = pack_accepted promise (record { plan = held_ok file ok; file_long = room })

  -- .. into as many bytes as the file has from its body on ..
  pub repacked_length : length (from_body file) ≡ length after
  unfolding plan_in file_length trailer_size
  repacked_length =
      omega (
        arith,
        length-drop (length file - file_length (d_in file) (l_in file)) file,
        ok.before,
        ok.far,
        ap length repacked_accepted.1,
        file_length_lem (plan_in file) (start_long_lem (plan_in file) ok.plan),
      )

  module _ (bytes : (i : ℕ) → get_or file i 0 < 256) where
    -- .. which have the same start order and the same trailer ..
    pub repacked : (from_body file ≡ (plan_in file).start ++ (plan_in file).bits ++ trailer_of (plan_in file))
        × (after ≡ (plan_in file).start ++ pack_bits (joined (l_in file) (step_bits (plan_in file))) ++ trailer_of (plan_in file))
    unfolding plan_in file_of
    repacked = (tail_is file ok bytes, repacked_accepted.1)

    -- .. the same l * d plan bits ..
    pub repacked_bit : (n : ℕ) → n < l_in file * d_in file → bit_at (drop (d_in file) after) n ≡ bit_at (drop (d_in file) (from_body file)) n
    repacked_bit n h = ap (λ s. bit_at (drop (d_in file) s) n) repacked_accepted.1 ∙ sym (tail_bit file ok bytes n h)

    -- .. and so the same bytes but for the last of the body ..
    pub repacked_byte : (i : ℕ) → i ≢ body_length (d_in file) (l_in file) - 1 → get_or after i 0 ≡ get_or (from_body file) i 0
    repacked_byte i ne = ap (λ s. get_or s i 0) repacked_accepted.1 ∙ sym (tail_byte file ok bytes i ne)

    -- .. and wholly exactly where the file's filling bits are 0.
    pub repacked_same : from_body file ≡ after ↔ ((n : ℕ) → l_in file * d_in file ≤ n → bit_at (plan_in file).bits n ≡ 0)
    repacked_same =
        subst (λ s. from_body file ≡ s ↔ ((n : ℕ) → l_in file * d_in file ≤ n → bit_at (plan_in file).bits n ≡ 0)) (sym repacked_accepted.1)
        (tail_packed file ok bytes)
