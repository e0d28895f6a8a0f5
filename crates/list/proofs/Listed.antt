-- What the program writes: the lines that the listing put, or the line of the number that it refuses by; and what follows of it.
-- Assumes nothing.
use Prim.Native.Nat.{ℕ, ◌≤◌}
use mathlib.Core.Path.{◌≡◌, sym, ap, ◌∙◌}
use mathlib.Core.Logic.{◌≢◌}
use mathlib.Core.List.{List, ◌++◌}
use native.Mathlib.Omega.{arith}
use lib.ListN.{length, take, drop, length-append}
use lib.Seq.{take_at}
use Rattle.ladder.specs.Numbers.{longest_text}
use Rattle.ladder.specs.PlanFile.{plan_in}
use Rattle.ladder.specs.Refusals.{◌then◌, big, unpack_refusal, list_refusal, listing_refusal}
use Rattle.ladder.specs.Listing.{refused_text, plan_text, listing_text}
use Rattle.ladder.proofs.Tests.{then_next, refusing_no, refusing_yes}
use Rattle.ladder.proofs.Refusals.{shape_none}
use Rattle.ladder.proofs.Texts.{listing_fits}
use Rattle.listing.specs.Promise.{ListingPromise}
use Rattle.listing.proofs.Promised.{listing_refused}
use Rattle.list.specs.Promise.{Written}

module _ {file text : List ℕ} {refusal size : ℕ} {after : List ℕ} (promise : ListingPromise file text refusal size after)
    (room : length text ≡ longest_text) where
  -- The buffer being right, the number is the program's ..
  number_is : refusal ≡ list_refusal file
  unfolding listing_refusal list_refusal
  number_is = promise.refusal_is ∙ ap (λ n. big file then n) (then_next _ (unpack_refusal file) ((shape_none text longest_text).1 room))

  module _ (some : refusal ≢ 0) where
    line_is : refused_text refusal ≡ listing_text file
    unfolding listing_text
    line_is = ap refused_text number_is ∙ sym (refusing_yes (list_refusal file) _ _ (λ z. some (number_is ∙ z)))

    -- .. the buffer is as long as it was ..
    pub room_kept : length after ≡ longest_text
    room_kept = ap length (listing_refused promise some).1 ∙ room

    -- .. its line fits ..
    pub line_fits : length (refused_text refusal) ≤ length after
    line_fits = omega (arith, ap length line_is, listing_fits file, room, ap length (listing_refused promise some).1)

    -- .. and is what is written.
    pub line_written : {n : ℕ} {textAfter : List ℕ} → n ≡ length (refused_text refusal) → textAfter ≡ refused_text refusal ++ drop n after
        → Written file text n textAfter
    line_written long put = record {
      size_is = long ∙ ap length line_is;
      text_is = put ∙ rw (long, line_is, (listing_refused promise some).1);
    }

  -- Where nothing is refused, the plan's lines are.
  pub lines_written : refusal ≡ 0 → Written file text size after
  unfolding listing_text
  lines_written none =
      let same : plan_text (plan_in file) ≡ listing_text file = sym (refusing_no (list_refusal file) _ _ (sym number_is ∙ none)) in
      record {
        size_is = promise.length_is ∙ refusing_no _ _ _ none ∙ ap length same;
        text_is = promise.text_is ∙ refusing_no _ _ _ none ∙ ap (λ lines. lines ++ drop (length lines) text) same;
      }

-- ---- what follows of what is written

-- No second size or text fits.
pub written_unique : {file text : List ℕ} {m n : ℕ} {after other : List ℕ} → Written file text m after → Written file text n other
    → (m ≡ n) × (after ≡ other)
written_unique x y = (x.size_is ∙ sym y.size_is, x.text_is ∙ sym y.text_is)

module _ {file text : List ℕ} {size : ℕ} {after : List ℕ} (w : Written file text size after) where
  -- The listing stands at the buffer's start: ..
  pub written_text : take size after ≡ listing_text file
  written_text = ap (take size) w.text_is ∙ take_at (listing_text file) _ size (sym w.size_is)

  -- .. of a file that is not refused the lines of its plan ..
  pub written_plan : list_refusal file ≡ 0 → take size after ≡ plan_text (plan_in file)
  unfolding listing_text
  written_plan none = written_text ∙ refusing_no (list_refusal file) _ _ none

  -- .. and of any other the line of its number.
  pub written_number : list_refusal file ≢ 0 → take size after ≡ refused_text (list_refusal file)
  unfolding listing_text
  written_number some = written_text ∙ refusing_yes (list_refusal file) _ _ some

-- What is written lies within the buffer.
pub written_inside : {file text : List ℕ} {size : ℕ} {textAfter : List ℕ} → Written file text size textAfter → size ≤ length textAfter
written_inside {file} {text} w =
    omega (arith, w.size_is, ap length w.text_is, length-append (listing_text file) (drop (length (listing_text file)) text))
