-- `deal` meets its contract. Rests on one place more being dealt its bit (`dealt_small`, `dealt_more`).
-- Assumes nothing.
use mathlib.Core.Path.{refl}
use native.Mathlib.Omega.{arith}
use Rattle.ladder.specs.Lists.{tabulate}
use Rattle.ladder.specs.Walk.{bits_of}
use Rattle.encode.specs.Inner.Order.{dealt_by}
use Rattle.encode.proofs.Dealt.{dealt_small, dealt_more}
use Rattle.encode.proofs.dealing.deal.Goals as goal

pub loop-column-init : goal.loop-column-init
unfolding bits_of tabulate dealt_by
loop-column-init c = (omega arith, refl)

pub loop-column-preserved : goal.loop-column-preserved
loop-column-preserved c =
    let l = c.loop-column in (
      dealt_small _ _ _ _ (omega arith) l.invariant.0,
      dealt_more _ _ _ _ (omega arith) l.invariant.1,
    )
