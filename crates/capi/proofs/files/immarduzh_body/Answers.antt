-- `immarduzh_body` keeps its promise: the part that the library hands out has the body's bytes, and where a file is accepted it ends where
-- the trailer begins (Bodies).
-- Assumes nothing.
use mathlib.Core.Path.{refl, ap, ◌∙◌}
use mathlib.Core.Logic.{◌≢◌}
use native.Mathlib.Omega.{arith}
use lib.ListN.{length}
use Rattle.refusal.specs.Answers.{number}
use Rattle.refusal.proofs.Laws.{number_positive, refused, accepted}
use Rattle.planfile.proofs.Promised.{body_refused}
use Rattle.capi.proofs.Bodies.{trailer-within, body_within, body_begins, body_size}
use Rattle.capi.proofs.files.immarduzh_body.Goals as goal

pub overflow_sub-offset : goal.overflow_sub-offset
overflow_sub-offset c = omega (arith, trailer-within c.in-Ok.ensures c.body-size.ensures refl)

pub overflow_sub-offset-in-Ok : goal.overflow_sub-offset-in-Ok
overflow_sub-offset-in-Ok c = omega (arith, body_within c.in-Ok.ensures c.body-size.ensures refl)

pub returns-in-Ok : goal.returns-in-Ok
returns-in-Ok c =
    let said = c.in-Ok.ensures in
    record {
      refusal_is = said.refusal_is;
      offset_is = body_begins said c.body-size.ensures refl ∙ accepted _ _;
      size_is = body_size said c.body-size.ensures refl ∙ accepted _ _;
    }

pub returns-in-Err : goal.returns-in-Err
returns-in-Err c =
    let said = c.in-Err.ensures in
    let some : number c.in-Err.refusal ≢ 0 = λ none. omega (arith, number_positive c.in-Err.refusal) in
    rw c.number.ensures
    (record {
      refusal_is = said.refusal_is;
      offset_is = refused c.in-Err.refusal _ _;
      size_is = ap length (body_refused c.body-size.ensures said some).0 ∙ refused c.in-Err.refusal _ _;
    })
