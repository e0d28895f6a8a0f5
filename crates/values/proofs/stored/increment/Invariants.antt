-- `increment` meets its contract: the words passed were full and are 0, and the one is owed to the next word.
-- Assumes nothing.
use Rattle.values.proofs.Words.{Carrying}
use Rattle.values.proofs.stored.increment.Given as goal

abbrev pub invariant-loop-word : goal.invariant-loop-word
invariant-loop-word l = Carrying l.fn.words l.word-items l.word-index
