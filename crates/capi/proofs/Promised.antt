-- What the place of a body is good for: it is that of the library's part, and lies within the file.
-- Assumes nothing.
use Prim.Native.Nat.{ℕ, zero, suc, ◌+◌, ◌≤◌}
use mathlib.Core.Path.{◌≡◌, refl, sym, ap, ◌∙◌}
use mathlib.Core.List.{List, []}
use native.Mathlib.Omega.{arith}
use lib.ListN.{length}
use Rattle.ladder.specs.PlanFile.{trailer_size, body_place, body_in}
use Rattle.ladder.specs.Refusals.{refusing}
use Rattle.ladder.proofs.Operations.{UnpackOk, unpack_none}
use Rattle.ladder.proofs.AcceptedFiles.{body_long}
use Rattle.planfile.specs.Promise.{BodyPromise}
use Rattle.capi.specs.Promise.{BodyPlacePromise}

length-refusing : (n : ℕ) (s : List ℕ) → length (refusing n [] s) ≡ refusing n 0 (length s)
unfolding refusing
length-refusing zero s = refl
length-refusing (suc n) s = refl

-- The part that the library hands out stands as far into the file as the offset says, and is as long as the length says.
pub place_of_body : {file part : List ℕ} {refusal offset size : ℕ} {place partPlace : ℕ × ℕ}
    → BodyPlacePromise file refusal offset size → BodyPromise file place part partPlace
    → (partPlace.1 ≡ place.1 + offset) × (length part ≡ size)
place_of_body {file} {place = place} p b = (
  b.offset_is ∙ ap (λ n. place.1 + n) (ap (λ n. refusing n 0 (body_place file)) (sym p.refusal_is) ∙ sym p.offset_is),
  ap length b.bytes_are
      ∙ ap (λ n. length (refusing n [] (body_in file))) (sym p.refusal_is)
      ∙ length-refusing _ (body_in file)
      ∙ sym p.size_is,
)

-- The body lies within the file.
pub body_inside : {file : List ℕ} {refusal offset size : ℕ} → BodyPlacePromise file refusal offset size → offset + size ≤ length file
unfolding refusing body_place trailer_size
body_inside {file} {refusal = zero} p =
    let ok : UnpackOk file = (unpack_none file).0 (sym p.refusal_is) in
    omega (arith, p.offset_is, p.size_is, body_long file ok, ok.far, ok.before)
body_inside {file} {refusal = suc n} p = omega (arith, p.offset_is, p.size_is)
