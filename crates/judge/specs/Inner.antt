-- What the inner contracts of judging need.
-- Assumes nothing.
use Rattle.std.specs.Prelude.{ℕ, ◌≡◌, Result}
use Rattle.ladder.specs.Plan.{Plan}
use Rattle.refusal.specs.declared.Refusal.{Refusal}
use Rattle.refusal.specs.Answers.{refusal_of}
use Rattle.refuse.specs.Inner.{InRange}

-- What a call is lent beside a plan gives number n, where the plan's d and l are in range: so says every answer `r` that the call's judge of
-- it can give.
abbrev pub Gives : (Result (Unit {0}) Refusal → Type 0) → Plan → ℕ → Type 0
Gives answers p n = InRange p.d p.l → (r : Result (Unit {0}) Refusal) → answers r → refusal_of r ≡ n
