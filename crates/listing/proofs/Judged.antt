-- The listing's refusal as its judge forms it: by the file's length, then by the buffer's, then as unpack.
-- Assumes nothing.
use Rattle.std.proofs.Common.{◌≡◌, ℕ, List, length}
use lib.Dec.{eqb, leb}
use Rattle.ladder.specs.Numbers.{longest_text}
use Rattle.ladder.specs.Refusals.{◌then◌, unless, BIG, SHAPE, shape, big, unpack_refusal, listing_refusal}
use Rattle.ladder.proofs.Chains.{listing_chain}

pub listing_row : (file text : List ℕ)
    → listing_refusal file text ≡ unless (leb (length file) 4096) BIG then unless (eqb (length text) 8589) SHAPE then unpack_refusal file
unfolding big shape longest_text
listing_row file text = listing_chain file text
