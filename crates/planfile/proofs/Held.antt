-- The plan that a file holds, as the code forms it: by what the file's trailer says.
-- Assumes nothing.
use Rattle.std.proofs.Common.{◌≡◌, ℕ, ◌+◌, ◌≤◌, ◌&&◌, List, ◌-◌, refl, sym, ap, ap₂, ◌∙◌, arith, length, length-drop, get_or, take, drop}
use lib.Dec.{eqb, leb}
use lib.Seq.{take_all, length-take-le, get_or-drop}
use Rattle.ladder.proofs.FileRefusals.{distance_none}
use Rattle.ladder.specs.Numbers.{bytes_for, bits_length}
use Rattle.ladder.specs.Plan.{Plan, plan_lent}
use Rattle.ladder.specs.PlanFile.{trailer_size, body_length, d_in, l_in, distance_in, trailer_byte, body_place, body_in, plan_in}
use Rattle.ladder.specs.Refusals.{◌then◌, unless, TRAILER, dim, len, distance, read_refusal, plan_refusal, unpack_refusal}
use Rattle.ladder.proofs.Operations.{unpack_none}
use Rattle.ladder.proofs.Bits.{bits_bound}
use Rattle.ladder.proofs.Tests.{then_assoc}
use Rattle.refuse.specs.Inner.{InRange}
use Rattle.planfile.specs.Inner.{TrailerSays}

-- A body is short, so no sum wraps.
pub body_few : {d l : ℕ} → InRange d l → body_length d l ≤ 584
unfolding body_length bits_length bytes_for
body_few {d} {l} r = omega (arith, bits_bound d l r.d_high r.l_high)

-- A byte of the last 12 is one of the trailer.
pub trailer_at : (file : List ℕ) (i : ℕ) → 12 ≤ length file
    → (let from = length file - 12 in get_or (take (length file - from) (drop from file)) i 0 ≡ trailer_byte file i)
unfolding trailer_byte trailer_size
trailer_at file i long =
    let from = length file - 12 in
    let all : take (length file - from) (drop from file) ≡ drop from file = take_all _ _ (omega (arith, length-drop from file)) in
    rw all (get_or-drop from file i 0)

module _ {file : List ℕ} {d l row back : ℕ} (read : TrailerSays file d l row back) where
  -- The two tests of the back distance.
  pub distance_read : distance file ≡ unless (eqb back (body_length d l) && leb (back + trailer_size) (length file)) TRAILER
  unfolding distance
  distance_read = rw (read.d_is, read.l_is, read.distance_is)

  -- The refusal of the plan: d and l together, then the distance, then what is read.
  pub plan_row : (n : ℕ) → plan_refusal (plan_in file) n ≡ (dim d then len l) then n then read_refusal (plan_in file)
  unfolding plan_refusal plan_in
  plan_row n = rw (read.d_is, read.l_is) (sym (then_assoc _ _ _))

  -- The plan's parts.
  pub plan_read : {body : List ℕ} → body ≡ body_in file → plan_lent d l (take d body) (drop d body) row ≡ plan_in file
  unfolding plan_in
  plan_read e = rw (e, read.d_is, read.l_is, read.row_is)

  -- The part of as many bytes as the distance says that ends where the trailer begins is the body.
  pub part_read : distance_in file + trailer_size ≤ length file
      → (let to = length file - 12 in
      (to - back ≡ body_place file) × (take (to - (to - back)) (drop (to - back) file) ≡ body_in file))
  unfolding trailer_size body_place body_in
  part_read before =
      let to = length file - 12 in
      let place : to - back ≡ length file - 12 - distance_in file = ap (λ n. to - n) read.distance_is in
      let count : to - (to - back) ≡ distance_in file = omega (arith, read.distance_is) in
      (place, ap₂ (λ n k. take n (drop k file)) count place)

  body_found : {body : List ℕ} → body ≡ body_in file → distance file ≡ 0 → length body ≡ distance_in file
  unfolding body_in body_place trailer_size
  body_found e none = ap length e ∙ length-take-le _ _ (simp length-drop (omega (arith, ((distance_none file).0 none).1)))

  -- The start order lies within the body, which has as many bytes as the distance says.
  pub body_room : distance file ≡ 0 → {body : List ℕ} → body ≡ body_in file → d ≤ length body
  unfolding body_length
  body_room none {body} e = omega (arith, body_found e none, read.d_is, read.distance_is, ((distance_none file).0 none).0)

  -- What is read of the plan is in range, and its bits are as long as they should be.
  pub plan_fits : {p : Plan} → p ≡ plan_in file → InRange d l → distance file ≡ 0
      → InRange p.d p.l × (length p.bits ≡ bits_length p.d p.l)
  unfolding plan_in body_length
  plan_fits {p} e range none =
      let same-d : p.d ≡ d = ap (λ q. q.d) e ∙ sym read.d_is in
      let same-l : p.l ≡ l = ap (λ q. q.l) e ∙ sym read.l_is in
      let far : distance_in file ≡ d_in file + bits_length (d_in file) (l_in file) = ((distance_none file).0 none).0 in
      let long : length p.bits ≡ bits_length (d_in file) (l_in file) =
      ap (λ q. length q.bits) e ∙ omega (arith, length-drop (d_in file) (body_in file), body_found refl none) in
      (rw (same-d, same-l) range, long ∙ ap₂ bits_length (ap (λ q. q.d) (sym e)) (ap (λ q. q.l) (sym e)))

-- In a file that is not refused the distance is right.
pub distance_found : (file : List ℕ) → 0 ≡ unpack_refusal file → 0 ≡ distance file
distance_found file judged = let ok = (unpack_none file).0 (sym judged) in sym ((distance_none file).1 (ok.far, ok.before))
