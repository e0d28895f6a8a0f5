-- No second answer fits pack's promise, nor unpack's, nor body's: from the promises alone.
-- Assumes nothing.
use Prim.Native.Nat.{ℕ}
use mathlib.Core.Path.{◌≡◌, sym, ap, ap₂, ◌∙◌}
use mathlib.Core.List.{List}
use Rattle.ladder.specs.Plan.{Plan}
use Rattle.ladder.proofs.Tests.{refusing-same}
use Rattle.planfile.specs.declared.unpacking.Unpacked.{Unpacked}
use Rattle.planfile.specs.Promise.{PackPromise, UnpackPromise, BodyPromise}

-- An answer is its three numbers.
pub same-unpacked : (r s : Unpacked) → r.d ≡ s.d → r.l ≡ s.l → r.row ≡ s.row → r ≡ s
same-unpacked r s d l i =
    ap₂ (λ a b. record { d = a; l = b; row = r.row }) d l ∙ ap (λ c. record { d = s.d; l = s.l; row = c }) i

-- Two refusals with two outputs that pack could answer and leave on the same input are equal.
pub pack_unique : {p : Plan} {file : List ℕ} {r s : ℕ} {fileAfter fileOther : List ℕ}
    → PackPromise p file r fileAfter → PackPromise p file s fileOther → (r ≡ s) × (fileAfter ≡ fileOther)
pack_unique x y =
    let n = x.refusal_is ∙ sym y.refusal_is in
    (n, refusing-same _ _ n x.file_is y.file_is)

-- Two refusals with two answers that unpack could give on the same bytes are equal.
pub unpack_unique : {file : List ℕ} {r s : ℕ} {u v : Unpacked} → UnpackPromise file r u → UnpackPromise file s v → (r ≡ s) × (u ≡ v)
unpack_unique {u = u} {v} x y =
    let n = x.refusal_is ∙ sym y.refusal_is in (
      n,
      same-unpacked u v (refusing-same _ _ n x.d_is y.d_is) (refusing-same _ _ n x.l_is y.l_is) (refusing-same _ _ n x.row_is y.row_is),
    )

-- Two parts that body could hand back of the same bytes at the same place are the same bytes at the same place.
pub body_unique : {file : List ℕ} {place : ℕ × ℕ} {part other : List ℕ} {partPlace otherPlace : ℕ × ℕ}
    → BodyPromise file place part partPlace → BodyPromise file place other otherPlace
    → (part ≡ other) × (partPlace.0 ≡ otherPlace.0) × (partPlace.1 ≡ otherPlace.1)
body_unique x y = (x.bytes_are ∙ sym y.bytes_are, x.block_is ∙ sym y.block_is, x.offset_is ∙ sym y.offset_is)
