-- `increment` meets its contract: the words passed were full and are 0, and the one is owed to the next word.
-- Assumes nothing.
use Rattle.std.proofs.Common.{rules}
use Rattle.values.proofs.Words.{carry_on}
use Rattle.values.proofs.stored.increment.Goals as goal

pub loop-word-preserved : goal.loop-word-preserved
loop-word-preserved c = search (rules, carry_on)
