-- No second answer fits a call's promise: every number returned and written and every output is fixed, from the promises alone. Each
-- follows from what the library has of its own call; a yes as a number and a body's place are new.
-- Assumes nothing.
use Prim.Native.Nat.{ℕ}
use mathlib.Core.Path.{◌≡◌, sym, ap, ◌∙◌}
use mathlib.Core.Bool.{cond}
use mathlib.Core.List.{List}
use lib.IntN.{ℤ}
use Rattle.ladder.specs.Plan.{Plan}
use Rattle.ladder.proofs.Tests.{refusing-same}
use Rattle.encode.specs.Promise.{EncodePromise}
use Rattle.encode.proofs.Unique as encoding
use Rattle.decode.specs.Promise.{DecodePromise}
use Rattle.decode.proofs.Unique as decoding
use Rattle.checking.proofs.Unique as checking
use Rattle.walk.specs.declared.state.Walk.{Walk}
use Rattle.walk.specs.Promise.{StepPromise}
use Rattle.walk.proofs.Unique as walking
use Rattle.trace.specs.declared.steps.Traced.{Traced}
use Rattle.trace.specs.Promise.{TracePromise}
use Rattle.trace.proofs.Unique as tracing
use Rattle.run.specs.declared.answer.Ran.{Ran}
use Rattle.run.specs.Promise.{RunPromise, PlainPromise, DifferencePromise}
use Rattle.run.proofs.Unique as running
use Rattle.planfile.specs.declared.unpacking.Unpacked.{Unpacked}
use Rattle.planfile.specs.Promise.{PackPromise, UnpackPromise}
use Rattle.planfile.proofs.Unique as filing
use Rattle.listing.specs.Promise.{ListingPromise}
use Rattle.listing.proofs.Unique as listing
use Rattle.capi.specs.Answers.{walk, traced, ran, unpacked}
use Rattle.capi.specs.Promise.{CheckNumberPromise, BodyPlacePromise}

-- Encode.
pub encode_unique : {d l : ℕ} {scalars start bits : List ℕ} {r s row rowOther : ℕ} {startAfter startOther bitsAfter bitsOther : List ℕ}
    → EncodePromise d l scalars start bits r row startAfter bitsAfter
    → EncodePromise d l scalars start bits s rowOther startOther bitsOther
    → (r ≡ s) × (row ≡ rowOther) × (startAfter ≡ startOther) × (bitsAfter ≡ bitsOther)
encode_unique x y = encoding.encode_unique x y

-- Decode.
pub decode_unique : {p : Plan} {values : List ℕ} {r s : ℕ} {valuesAfter valuesOther : List ℕ}
    → DecodePromise p values r valuesAfter → DecodePromise p values s valuesOther → (r ≡ s) × (valuesAfter ≡ valuesOther)
decode_unique x y = decoding.decode_unique x y

-- Check.
pub check_unique : {p : Plan} {scalars : List ℕ} {r s said saidOther : ℕ}
    → CheckNumberPromise p scalars r said → CheckNumberPromise p scalars s saidOther → (r ≡ s) × (said ≡ saidOther)
check_unique x y =
    let u = checking.check_unique x.said_is y.said_is in
    (u.0, x.yes_is ∙ ap (λ said. cond said 1 0) u.1 ∙ sym y.yes_is)

-- Step.
pub step_unique : {d bits : ℕ} {order : List ℕ} {signs : List ℤ} {r s : ℕ} {order_after orderOther : List ℕ} {signs_after signsOther : List ℤ}
    → StepPromise (walk d order signs) bits r (walk d order_after signs_after)
    → StepPromise (walk d order signs) bits s (walk d orderOther signsOther)
    → (r ≡ s) × (order_after ≡ orderOther) × (signs_after ≡ signsOther)
step_unique x y =
    let u = walking.step_unique x y in
    (u.0, ap (λ (w : Walk). w.order) u.1, ap (λ (w : Walk). w.signs) u.1)

-- Trace.
pub trace_unique : {p : Plan} {out : List ℕ} {r s doublings doublingsOther additions additionsOther : ℕ} {outAfter outOther : List ℕ}
    → TracePromise p out r (traced doublings additions) outAfter → TracePromise p out s (traced doublingsOther additionsOther) outOther
    → (r ≡ s) × (doublings ≡ doublingsOther) × (additions ≡ additionsOther) × (outAfter ≡ outOther)
trace_unique x y =
    let u = tracing.trace_unique x y in (
      u.0,
      ap (λ (a : Traced). a.doublings) u.1,
      ap (λ (a : Traced). a.additions) u.1,
      u.2,
    )

-- A run that leaves the registers wanted ..
pub run_unique : {p : Plan} {number : ℕ} {registers wanted : List ℕ}
    {r s answer answerOther doublings doublingsOther additions additionsOther : ℕ} {registers_after registersOther : List ℕ}
    → RunPromise p number registers wanted r (ran answer doublings additions) registers_after
    → RunPromise p number registers wanted s (ran answerOther doublingsOther additionsOther) registersOther
    → (r ≡ s) × (answer ≡ answerOther) × (doublings ≡ doublingsOther) × (additions ≡ additionsOther) × (registers_after ≡ registersOther)
run_unique x y =
    let u = running.run_unique x y in (
      u.0,
      ap (λ (a : Ran). a.answer) u.1,
      ap (λ (a : Ran). a.doublings) u.1,
      ap (λ (a : Ran). a.additions) u.1,
      u.2,
    )

-- .. the plain run ..
pub plain_unique : (m : ℕ) (elements : List ℕ) {p : Plan} {registers : List ℕ}
    {r s answer answerOther doublings doublingsOther additions additionsOther : ℕ} {registers_after registersOther : List ℕ}
    → PlainPromise p m elements registers r (ran answer doublings additions) registers_after
    → PlainPromise p m elements registers s (ran answerOther doublingsOther additionsOther) registersOther
    → (r ≡ s) × (answer ≡ answerOther) × (doublings ≡ doublingsOther) × (additions ≡ additionsOther) × (registers_after ≡ registersOther)
plain_unique m elements x y = run_unique x y

-- .. and the difference run.
pub difference_unique : (m : ℕ) (elements : List ℕ) {p : Plan} {registers : List ℕ}
    {r s answer answerOther doublings doublingsOther additions additionsOther : ℕ} {registers_after registersOther : List ℕ}
    → DifferencePromise p m elements registers r (ran answer doublings additions) registers_after
    → DifferencePromise p m elements registers s (ran answerOther doublingsOther additionsOther) registersOther
    → (r ≡ s) × (answer ≡ answerOther) × (doublings ≡ doublingsOther) × (additions ≡ additionsOther) × (registers_after ≡ registersOther)
difference_unique m elements x y = run_unique x y

-- Pack.
pub pack_unique : {p : Plan} {file : List ℕ} {r s : ℕ} {fileAfter fileOther : List ℕ}
    → PackPromise p file r fileAfter → PackPromise p file s fileOther → (r ≡ s) × (fileAfter ≡ fileOther)
pack_unique x y = filing.pack_unique x y

-- Unpack.
pub unpack_unique : {file : List ℕ} {r s d dOther l lOther row rowOther : ℕ}
    → UnpackPromise file r (unpacked d l row) → UnpackPromise file s (unpacked dOther lOther rowOther)
    → (r ≡ s) × (d ≡ dOther) × (l ≡ lOther) × (row ≡ rowOther)
unpack_unique x y =
    let u = filing.unpack_unique x y in (
      u.0,
      ap (λ (a : Unpacked). a.d) u.1,
      ap (λ (a : Unpacked). a.l) u.1,
      ap (λ (a : Unpacked). a.row) u.1,
    )

-- Body.
pub body_unique : {file : List ℕ} {r s offset offsetOther size sizeOther : ℕ}
    → BodyPlacePromise file r offset size → BodyPlacePromise file s offsetOther sizeOther
    → (r ≡ s) × (offset ≡ offsetOther) × (size ≡ sizeOther)
body_unique x y =
    let n = x.refusal_is ∙ sym y.refusal_is in
    (n, refusing-same _ _ n x.offset_is y.offset_is, refusing-same _ _ n x.size_is y.size_is)

-- Listing.
pub listing_unique : {file text : List ℕ} {r s size sizeOther : ℕ} {textAfter textOther : List ℕ}
    → ListingPromise file text r size textAfter → ListingPromise file text s sizeOther textOther
    → (r ≡ s) × (size ≡ sizeOther) × (textAfter ≡ textOther)
listing_unique x y = listing.listing_unique x y
