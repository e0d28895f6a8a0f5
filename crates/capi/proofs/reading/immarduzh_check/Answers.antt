-- `immarduzh_check` keeps its promise: the library's answer, whose yes is cast to 1 and whose no is cast to 0.
-- Assumes nothing.
use mathlib.Core.Path.{◌≡◌, refl}
use mathlib.Core.Bool.{Bool, true, false, cond}
use mir.Val.{bool_byte}
use Rattle.capi.proofs.reading.immarduzh_check.Goals as goal

as_number : (said : Bool) → bool_byte said ≡ cond said 1 0
as_number true = refl
as_number false = refl

pub returns : goal.returns
returns c =
    let said = c.parts-refusal.result.1 in
    let parts = c.parts-refusal.ensures in
    record { said = said; said_is = rw (parts.number, parts.value) c.check.ensures; yes_is = as_number said }
