-- No second answer fits the listing's promise: from the promise alone.
-- Assumes nothing.
use mathlib.Core.Path.{◌≡◌, sym, ◌∙◌}
use Prim.Native.Nat.{ℕ}
use mathlib.Core.List.{List}
use Rattle.ladder.proofs.Tests.{refusing-same}
use Rattle.listing.specs.Promise.{ListingPromise}

-- Two refusals and lengths with two buffers that the listing could give and leave on the same input are equal.
pub listing_unique : {file text : List ℕ} {r s size sizeOther : ℕ} {textAfter textOther : List ℕ}
    → ListingPromise file text r size textAfter → ListingPromise file text s sizeOther textOther
    → (r ≡ s) × (size ≡ sizeOther) × (textAfter ≡ textOther)
listing_unique x y =
    let n = x.refusal_is ∙ sym y.refusal_is in
    (n, refusing-same _ _ n x.length_is y.length_is, refusing-same _ _ n x.text_is y.text_is)
