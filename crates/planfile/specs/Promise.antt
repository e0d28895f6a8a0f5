-- What pack, unpack and body promise, on all input: the refusal of the table, every answer and every output.
-- Assumes nothing.
use Rattle.std.specs.Prelude.{ℕ, ◌+◌, ◌≡◌, List, []}
use Rattle.ladder.specs.Plan.{Plan}
use Rattle.ladder.specs.PlanFile.{d_in, l_in, answer_in, body_place, body_in, file_of}
use Rattle.ladder.specs.Refusals.{refusing, pack_refusal, unpack_refusal}
use Rattle.planfile.specs.declared.unpacking.Unpacked.{Unpacked}

-- Pack, of the plan p, with the file as it comes and as it is left: the plan's file, nothing before its body, filling bits 0; on refusal
-- the file as it came. With d 2, l 7, start order 1 2, bits 72 D9 and row 3: refusal 0, file 01 02 72 D8 02 03 07 00 04 00 00 00 64 6D 75 6C.
pub record PackPromise (p : Plan) (file : List ℕ) (refusal : ℕ) (fileAfter : List ℕ) : Type 0 where
  pub refusal_is : refusal ≡ pack_refusal p file
  pub file_is : fileAfter ≡ refusing refusal file (file_of p)

-- What stands for unpack's answer where it refuses.
abbrev pub no_numbers : Unpacked
no_numbers = record { d = 0; l = 0; row = 0 }

-- Unpack, of any bytes: what their trailer says; on refusal zeros. Of that file: refusal 0, d 2, l 7, row 3.
pub record UnpackPromise (file : List ℕ) (refusal : ℕ) (r : Unpacked) : Type 0 where
  pub refusal_is : refusal ≡ unpack_refusal file
  pub d_is : r.d ≡ refusing refusal 0 (d_in file)
  pub l_is : r.l ≡ refusing refusal 0 (l_in file)
  pub row_is : r.row ≡ refusing refusal 0 (answer_in file)

-- Body, of any bytes that stand in memory from a block's offset on: the part of them that is the body, by its block, its offset and its
-- bytes, and so its length; where unpack refuses, the empty part at their start. Of that file: 01 02 72 D8, at its own place.
pub record BodyPromise (file : List ℕ) (place : ℕ × ℕ) (part : List ℕ) (partPlace : ℕ × ℕ) : Type 0 where
  pub block_is : partPlace.0 ≡ place.0
  pub offset_is : partPlace.1 ≡ place.1 + refusing (unpack_refusal file) 0 (body_place file)
  pub bytes_are : part ≡ refusing (unpack_refusal file) [] (body_in file)
