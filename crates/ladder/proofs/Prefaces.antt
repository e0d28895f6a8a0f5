-- What stands before a file of twelve bytes or more is not looked at: its trailer, body and plan are the same, and its body begins that
-- much later.
-- Assumes nothing.
use Prim.Native.Nat.{ℕ, ◌+◌, ◌-◌, ◌≤◌}
use mathlib.Core.Path.{◌≡◌, sym, ap, ap₂, subst, ◌∙◌}
use mathlib.Core.List.{List, ◌++◌}
use native.Mathlib.Omega.{arith}
use lib.ListN.{length, get_or, take, drop, length-append}
use lib.Seq.{drop-append-add, get_or-append-add}
use Rattle.ladder.specs.PlanFile.{trailer_size, body_length, trailer_byte, d_in, answer_in, l_in, distance_in, mark_in, body_place, body_in, plan_in}
use Rattle.ladder.proofs.Refusals.{Accepted}
use Rattle.ladder.proofs.Operations.{UnpackOk}

module _ (pre file : List ℕ) (twelve : 12 ≤ length file) where
  -- The trailer's bytes ..
  pub byte_after : (i : ℕ) → trailer_byte (pre ++ file) i ≡ trailer_byte file i
  unfolding trailer_byte trailer_size
  byte_after i =
      let place : length (pre ++ file) - 12 + i ≡ length pre + (length file - 12 + i) = omega (arith, length-append pre file) in
      ap (λ n. get_or (pre ++ file) n 0) place ∙ get_or-append-add pre file (length file - 12 + i) 0

  -- .. and so its d, ..
  pub d_after : d_in (pre ++ file) ≡ d_in file
  unfolding d_in
  d_after = byte_after 0

  -- .. its answer row, ..
  pub answer_after : answer_in (pre ++ file) ≡ answer_in file
  unfolding answer_in
  answer_after = byte_after 1

  -- .. its l, ..
  pub l_after : l_in (pre ++ file) ≡ l_in file
  unfolding l_in
  l_after = rw (byte_after 2, byte_after 3)

  -- .. its back distance ..
  pub distance_after : distance_in (pre ++ file) ≡ distance_in file
  unfolding distance_in
  distance_after = rw (byte_after 4, byte_after 5, byte_after 6, byte_after 7)

  -- .. and its mark.
  pub mark_after : mark_in (pre ++ file) ≡ mark_in file
  unfolding mark_in
  mark_after =
      let place : length (pre ++ file) - 4 ≡ length pre + (length file - 4) = omega (arith, length-append pre file) in
      ap (λ n. drop n (pre ++ file)) place ∙ drop-append-add pre file (length file - 4)

  module _ (before : distance_in file + trailer_size ≤ length file) where
    -- The body begins as many bytes later as stand before the file ..
    pub place_after : body_place (pre ++ file) ≡ length pre + body_place file
    unfolding body_place trailer_size
    place_after = omega (arith, length-append pre file, distance_after)

    -- .. and has the same bytes ..
    pub body_after : body_in (pre ++ file) ≡ body_in file
    unfolding body_in
    body_after =
        ap₂ (λ n m. take n (drop m (pre ++ file))) distance_after place_after
        ∙ ap (take (distance_in file)) (drop-append-add pre file (body_place file))

    -- .. and so the same plan.
    pub plan_after : plan_in (pre ++ file) ≡ plan_in file
    unfolding plan_in
    plan_after = rw (d_after, l_after, answer_after, body_after)

-- An accepted file stays one, whatever stands before it.
pub accepted_after : (pre file : List ℕ) → UnpackOk file → UnpackOk (pre ++ file)
unfolding trailer_size
accepted_after pre file ok =
    let twelve = ok.twelve in
    let far = distance_after pre file twelve in
    record {
      twelve = omega (arith, length-append pre file);
      marked = mark_after pre file twelve ∙ ok.marked;
      far = far ∙ ok.far ∙ sym (ap₂ body_length (d_after pre file twelve) (l_after pre file twelve));
      before = omega (arith, length-append pre file, ok.before);
      plan = subst Accepted (sym (plan_after pre file twelve ok.before)) ok.plan;
    }
