-- What follows from the promises of pack, unpack and body alone: refused or not.
-- Assumes nothing.
use Prim.Native.Nat.{ℕ, ◌+◌, ◌≤◌}
use mathlib.Core.Path.{◌≡◌, sym, ap, subst, ◌∙◌}
use mathlib.Core.Logic.{◌≢◌, ◌↔◌}
use mathlib.Core.List.{List, []}
use native.Mathlib.Nat.{add-zero}
use native.Mathlib.Omega.{arith}
use lib.ListN.{length, take, drop}
use Rattle.ladder.specs.Plan.{Plan, plan_lent}
use Rattle.ladder.specs.PlanFile.{d_in, l_in, answer_in, body_length, body_place, body_in, plan_in, file_of}
use Rattle.ladder.specs.Refusals.{unpack_refusal}
use Rattle.ladder.proofs.Tests.{refusing_no, refusing_yes}
use Rattle.ladder.proofs.Operations.{PackOk, UnpackOk, pack_none, unpack_none}
use Rattle.ladder.proofs.AcceptedFiles.{body_long, body_two}
use Rattle.planfile.specs.declared.unpacking.Unpacked.{Unpacked}
use Rattle.planfile.specs.Promise.{PackPromise, UnpackPromise, BodyPromise}

-- ---- pack

module _ {p : Plan} {file : List ℕ} {r : ℕ} {fileAfter : List ℕ} (promise : PackPromise p file r fileAfter) where
  -- Pack's refusal is 0 exactly where the plan and the buffers are what it asks ..
  pub pack_accepts : r ≡ 0 ↔ PackOk p file
  pack_accepts = subst (λ n. n ≡ 0 ↔ PackOk p file) (sym promise.refusal_is) (pack_none p file)

  -- .. then the refusal is 0 and the file is the plan's ..
  pub pack_accepted : PackOk p file → (r ≡ 0) × (fileAfter ≡ file_of p)
  pack_accepted ok =
      let none = pack_accepts.1 ok in
      (none, promise.file_is ∙ refusing_no _ _ _ none)

  -- .. and on refusal it is as it came.
  pub pack_refused : r ≢ 0 → fileAfter ≡ file
  pack_refused some = promise.file_is ∙ refusing_yes _ _ _ some

-- ---- unpack

module _ {file : List ℕ} {r : ℕ} {u : Unpacked} (promise : UnpackPromise file r u) where
  -- Unpack's refusal is 0 exactly where the bytes are what it asks ..
  pub unpack_accepts : r ≡ 0 ↔ UnpackOk file
  unpack_accepts = subst (λ n. n ≡ 0 ↔ UnpackOk file) (sym promise.refusal_is) (unpack_none file)

  -- .. then the refusal is 0 and the numbers are the trailer's ..
  pub unpack_accepted : UnpackOk file → (r ≡ 0) × (u.d ≡ d_in file) × (u.l ≡ l_in file) × (u.row ≡ answer_in file)
  unpack_accepted ok =
      let none = unpack_accepts.1 ok in
      (none, promise.d_is ∙ refusing_no _ _ _ none, promise.l_is ∙ refusing_no _ _ _ none, promise.row_is ∙ refusing_no _ _ _ none)

  -- .. and on refusal they are 0.
  pub unpack_refused : r ≢ 0 → (u.d ≡ 0) × (u.l ≡ 0) × (u.row ≡ 0)
  unpack_refused some =
      (promise.d_is ∙ refusing_yes _ _ _ some, promise.l_is ∙ refusing_yes _ _ _ some, promise.row_is ∙ refusing_yes _ _ _ some)

-- ---- body

module _ {file : List ℕ} {place : ℕ × ℕ} {part : List ℕ} {partPlace : ℕ × ℕ} (promise : BodyPromise file place part partPlace) where
  -- Of bytes that unpack accepts the part is the body, in the same block, as far on as the body begins ..
  pub body_accepted : UnpackOk file → (part ≡ body_in file) × (partPlace.0 ≡ place.0) × (partPlace.1 ≡ place.1 + body_place file)
  body_accepted ok =
      let none = (unpack_none file).1 ok in
      (promise.bytes_are ∙ refusing_no _ _ _ none, promise.block_is, promise.offset_is ∙ ap (λ n. place.1 + n) (refusing_no _ _ _ none))

  -- .. which has d + ceil(l * d / 8) bytes ..
  pub body_length_lem : UnpackOk file → length part ≡ body_length (d_in file) (l_in file)
  body_length_lem ok = ap length (body_accepted ok).0 ∙ body_long file ok

  -- .. and at least 2 ..
  pub body_two_bytes : UnpackOk file → 2 ≤ length part
  body_two_bytes ok = omega (arith, ap length (body_accepted ok).0, body_two file ok)

  module _ {r : ℕ} {u : Unpacked} (answered : UnpackPromise file r u) where
    -- .. where unpack refuses it is the empty part at their start ..
    pub body_refused : r ≢ 0 → (part ≡ []) × (partPlace.0 ≡ place.0) × (partPlace.1 ≡ place.1)
    body_refused some =
        let refused : unpack_refusal file ≢ 0 = λ z. some (answered.refusal_is ∙ z) in (
          promise.bytes_are ∙ refusing_yes _ _ _ refused,
          promise.block_is,
          promise.offset_is ∙ ap (λ n. place.1 + n) (refusing_yes _ _ _ refused) ∙ add-zero place.1,
        )

    -- .. the plan that a caller has in hand, the numbers with the body's two parts, is the one that the file holds ..
    pub body_plan : UnpackOk file → plan_lent u.d u.l (take u.d part) (drop u.d part) u.row ≡ plan_in file
    unfolding plan_in
    body_plan ok =
        let t = unpack_accepted answered ok in
        rw (t.1, t.2, t.3, (body_accepted ok).0)

    -- .. and so it is empty exactly where unpack refuses.
    pub body_empty : part ≡ [] ↔ r ≢ 0
    body_empty = (
      λ e none. omega (arith, body_two_bytes ((unpack_accepts answered).0 none), ap length e),
      λ some. (body_refused some).0,
    )
