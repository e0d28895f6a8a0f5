-- What trace promises, on all input: the refusal of the table, every answer and every output.
-- Assumes nothing.
use Rattle.std.specs.Prelude.{ℕ, ◌≡◌, List}
use Rattle.ladder.specs.Plan.{Plan}
use Rattle.ladder.specs.Trace.{entries_in, trace_bytes, doublings, addition_count}
use Rattle.ladder.specs.Refusals.{refusing, trace_refusal}
use Rattle.trace.specs.declared.steps.Traced.{Traced}

-- What stands for trace's answer on refusal.
abbrev pub no_trace : Traced
no_trace = record { doublings = 0; additions = 0 }

-- Trace, of the plan p, with the trace buffer as it comes and as it is left: the bytes of its entries, whose vectors are rows of the
-- matrix before each step, and the counts of these entries; on refusal zeros, and the buffer as it came. With d 2, l 2, start order 1 2,
-- bits B0, row 2 and room for 24 bytes: refusal 0, 2 doublings, 4 additions, and bytes that begin 02 02 00 00, 01 02 01 00.
pub record TracePromise (p : Plan) (out : List ℕ) (refusal : ℕ) (r : Traced) (outAfter : List ℕ) : Type 0 where
  pub refusal_is : refusal ≡ trace_refusal p out
  pub doublings_are : r.doublings ≡ refusing refusal 0 (doublings (entries_in p))
  pub additions_are : r.additions ≡ refusing refusal 0 (addition_count (entries_in p))
  pub trace_is : outAfter ≡ refusing refusal out (trace_bytes (entries_in p))
