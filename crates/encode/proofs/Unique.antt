-- No second answer fits encode's promise: from the promise alone.
-- Assumes nothing.
use Prim.Native.Nat.{ℕ}
use mathlib.Core.Path.{◌≡◌, sym, ◌∙◌}
use mathlib.Core.List.{List}
use Rattle.ladder.proofs.Tests.{refusing-same}
use Rattle.encode.specs.Promise.{EncodePromise}

-- Two refusals, two rows and two outputs that meet the promise on the same input are equal.
pub encode_unique : {d l : ℕ} {scalars start bits : List ℕ} {r s row rowOther : ℕ} {startAfter startOther bitsAfter bitsOther : List ℕ}
    → EncodePromise d l scalars start bits r row startAfter bitsAfter → EncodePromise d l scalars start bits s rowOther startOther bitsOther
    → (r ≡ s) × (row ≡ rowOther) × (startAfter ≡ startOther) × (bitsAfter ≡ bitsOther)
encode_unique x y =
    let n = x.refusal_is ∙ sym y.refusal_is in (
      n,
      refusing-same _ _ n x.row_is y.row_is,
      refusing-same _ _ n x.start_is y.start_is,
      refusing-same _ _ n x.bits_are y.bits_are,
    )
