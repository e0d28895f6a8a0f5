-- The library's answers, put together from what stands behind the references that a call was lent. So the library's own promises say what
-- the calls promise.
-- Assumes nothing.
use Rattle.std.specs.Prelude.{ℕ, List, ℤ}
use Rattle.walk.specs.declared.state.Walk.{Walk}
use Rattle.trace.specs.declared.steps.Traced.{Traced}
use Rattle.run.specs.declared.answer.Ran.{Ran}
use Rattle.planfile.specs.declared.unpacking.Unpacked.{Unpacked}

abbrev pub walk : ℕ → List ℕ → List ℤ → Walk
walk d order signs = record { d = d; order = order; signs = signs }

abbrev pub traced : ℕ → ℕ → Traced
traced doublings additions = record { doublings = doublings; additions = additions }

abbrev pub ran : ℕ → ℕ → ℕ → Ran
ran answer doublings additions = record { answer = answer; doublings = doublings; additions = additions }

abbrev pub unpacked : ℕ → ℕ → ℕ → Unpacked
unpacked d l row = record { d = d; l = l; row = row }
