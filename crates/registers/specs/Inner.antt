-- What the inner contracts of the runs need.
-- Assumes nothing.
use Rattle.std.specs.Prelude.{◌≡◌, ℕ, suc, ◌<◌, ◌≤◌, List, length, take, slice_index}
use Rattle.ladder.specs.Matrix.{OrderOk}
use Rattle.ladder.specs.Plan.{Plan, start_order}
use Rattle.ladder.specs.Refusals.{run_refusal}
use Rattle.ladder.specs.Registers.{modulus, start_registers}
use Rattle.registers.specs.declared.words.Registers.{Registers}

-- The first n of some words are elements of the modulus.
abbrev pub Elements : ℕ → ℕ → List ℕ → Type 0
Elements m n words = (i : ℕ) → i < n → slice_index words i < modulus m

-- What the start registers ask: an arrangement, counted from 1, and an element for each column.
pub record Startable (m : ℕ) (start elements : List ℕ) : Type 0 where
  pub few : length start ≤ 8
  pub order : OrderOk (length start) start
  pub long : length elements ≡ length start
  pub below : Elements m (length elements) elements

-- What a run's steps begin with: nine words, of which the first d + 1 are the plan's start registers.
pub record Begun (p : Plan) (m : ℕ) (elements first : List ℕ) : Type 0 where
  pub nine : length first ≡ 9
  pub begun : take (suc p.d) first ≡ start_registers m elements (start_order p)

-- Where nothing is refused, steps by the modulus that ask `pre` can be made from there ..
abbrev pub CanStep : (ℕ → Registers → Type 0) → Plan → ℕ → List ℕ → List ℕ → Type 0
CanStep pre p m elements registers = run_refusal p m elements registers ≡ 0 → (first : Registers) → Begun p m elements first.words → pre m first

-- .. and whatever they can end in, by `post`, holds these end registers.
abbrev pub StepsTo : (ℕ → Registers → Registers → Type 0) → Plan → ℕ → List ℕ → List ℕ → List ℕ → Type 0
StepsTo post p m elements registers wanted =
    run_refusal p m elements registers ≡ 0 → (first end : Registers) → Begun p m elements first.words → post m first end
    → take (suc p.d) end.words ≡ wanted
