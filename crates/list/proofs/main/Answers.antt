-- `list::main` is safe and ends: the buffer is as long as the longest text.
-- Assumes the toolchain's contracts of the C calls that read, write and tell an error.
use Rattle.std.proofs.Common.{refl}
use Rattle.ladder.specs.Numbers.{longest_text}
use Rattle.list.proofs.main.Goals as goal

pub put_listing-length-requires : goal.put_listing-length-requires
unfolding longest_text
put_listing-length-requires c = refl
