-- Where the body of an accepted file stands, from what unpack and body promise alone: it ends where the trailer of 12 bytes begins.
-- Assumes nothing.
use Prim.Native.Nat.{ℕ, ◌-◌, ◌≤◌}
use mathlib.Core.Path.{◌≡◌, sym, ap, ◌∙◌}
use mathlib.Core.List.{List}
use native.Mathlib.Omega.{arith}
use lib.ListN.{length}
use Rattle.ladder.specs.PlanFile.{trailer_size, distance_in, body_place, body_in}
use Rattle.ladder.proofs.Operations.{UnpackOk}
use Rattle.ladder.proofs.AcceptedFiles.{body_long}
use Rattle.planfile.specs.declared.unpacking.Unpacked.{Unpacked}
use Rattle.planfile.specs.Promise.{UnpackPromise, BodyPromise}
use Rattle.planfile.proofs.Promised.{unpack_accepts, body_accepted}

module _ {file : List ℕ} {refusal : ℕ} {u : Unpacked} {place : ℕ × ℕ} {part : List ℕ} {partPlace : ℕ × ℕ}
    (unpacked : UnpackPromise file refusal u) (body : BodyPromise file place part partPlace) (none : refusal ≡ 0) where
  ok : UnpackOk file
  ok = (unpack_accepts unpacked).0 none

  -- The file has a trailer ..
  pub trailer-within : 12 ≤ length file
  trailer-within = ok.twelve

  -- .. the part has as many bytes as the body ..
  pub body_size : length part ≡ length (body_in file)
  body_size = ap length (body_accepted body ok).0

  -- .. which are as many as the trailer's distance ..
  long : length part ≡ distance_in file
  long = body_size ∙ body_long file ok ∙ sym ok.far

  -- .. so that the body stands before the trailer ..
  pub body_within : length part ≤ length file - 12
  unfolding trailer_size
  body_within = omega (arith, long, ok.before)

  -- .. and begins by its length before it.
  pub body_begins : length file - 12 - length part ≡ body_place file
  unfolding body_place trailer_size
  body_begins = ap (λ n. length file - 12 - n) long
