-- The plan that the code is lent, as the rules have it.
-- Assumes nothing.
use Rattle.ladder.specs.Plan as rules
use Rattle.loose.specs.declared.Plan.{Plan}

abbrev pub plan_of : Plan → rules.Plan
plan_of p = rules.plan_lent p.d p.l p.start.now p.bits.now p.row
