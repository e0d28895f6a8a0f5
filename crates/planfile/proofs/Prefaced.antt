-- Anything may stand before a plan file: unpack answers the same of it, and body hands back the same bytes, as much further on: from the
-- promises alone.
-- Assumes nothing.
use Prim.Native.Nat.{ℕ, ◌+◌}
use mathlib.Core.Path.{◌≡◌, sym, ap, ◌∙◌}
use mathlib.Core.List.{List, ◌++◌}
use lib.ListN.{length}
use Rattle.ladder.specs.PlanFile.{body_place}
use Rattle.ladder.proofs.Operations.{UnpackOk}
use Rattle.ladder.proofs.Prefaces.{d_after, answer_after, l_after, place_after, body_after, accepted_after}
use Rattle.planfile.specs.declared.unpacking.Unpacked.{Unpacked}
use Rattle.planfile.specs.Promise.{UnpackPromise, BodyPromise}
use Rattle.planfile.proofs.Unique.{same-unpacked}
use Rattle.planfile.proofs.Promised.{unpack_accepts, unpack_accepted, body_accepted}

module _ (pre : List ℕ) {file : List ℕ} {r : ℕ} {u : Unpacked} (promise : UnpackPromise file r u) (none : r ≡ 0) where
  asked : UnpackOk file
  asked = (unpack_accepts promise).0 none

  -- Unpack's refusal and its numbers are the same ..
  pub unpack_prefaced : {s : ℕ} {v : Unpacked} → UnpackPromise (pre ++ file) s v → (s ≡ r) × (v ≡ u)
  unpack_prefaced {v = v} other =
      let here = unpack_accepted promise asked in
      let there = unpack_accepted other (accepted_after pre file asked) in (
        there.0 ∙ sym here.0,
        same-unpacked v u (there.1 ∙ d_after pre file asked.twelve ∙ sym here.1) (there.2 ∙ l_after pre file asked.twelve ∙ sym here.2)
            (there.3 ∙ answer_after pre file asked.twelve ∙ sym here.3),
      )

  module _ {place place' partPlace partPlace' : ℕ × ℕ} {part part' : List ℕ}
      (body : BodyPromise file place part partPlace) (other : BodyPromise (pre ++ file) place' part' partPlace') where
    -- .. the body's bytes are the same ..
    pub body_prefaced : part' ≡ part
    body_prefaced =
        (body_accepted other (accepted_after pre file asked)).0
        ∙ body_after pre file asked.twelve asked.before
        ∙ sym (body_accepted body asked).0

    -- .. and they begin as much further on as bytes stand before the file.
    pub place_prefaced : (partPlace.1 ≡ place.1 + body_place file) × (partPlace'.1 ≡ place'.1 + (length pre + body_place file))
    place_prefaced = (
      (body_accepted body asked).2,
      (body_accepted other (accepted_after pre file asked)).2 ∙ ap (λ n. place'.1 + n) (place_after pre file asked.twelve asked.before),
    )
