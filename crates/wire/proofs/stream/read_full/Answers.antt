-- What one read gives stands behind what was read before, as much of it as the read says (`filled`).
-- Assumes nothing.
use Rattle.std.proofs.Common.{◌≡◌, ℕ, ◌+◌, ◌≤◌, List, ◌++◌, length, take, sym, ap, ◌∙◌, subst, rules, length-take-le}
use Rattle.std.specs.Io.KnownBytes.{Consumes}
use Rattle.std.proofs.KnownBytes.{Consumes-trans}
use Rattle.std.proofs.Math.Seq.{take-append-add}
use Rattle.std.proofs.lemmas.List.{take-append-le}
use Rattle.wire.proofs.stream.read_full.Goals as goal

filled : (room part rest : List ℕ) (at n : ℕ) → at ≤ length room → n ≤ length part → take at room ++ take n part ≡ take (at + n) (take at room ++ (part ++ rest))
filled room part rest at n within fits =
    let front : length (take at room) ≡ at = length-take-le at room within in
    ap (λ bytes. take at room ++ bytes) (sym (take-append-le n part rest fits))
    ∙ sym (take-append-add (take at room) (part ++ rest) n) ∙ ap (λ k. take (k + n) (take at room ++ (part ++ rest))) front

pub loop-done-preserved : goal.loop-done-preserved
loop-done-preserved g c =
    let l = c.loop-done in (
      search rules,
      search rules,
      subst (Consumes _ _) (filled l.room c.read.new.buf _ l.done c.in_ok-n.n l.invariant.0 c.in_ok-n.ensures.bound.0)
          (Consumes-trans _ _ _ _ _ l.invariant.2 c.in_ok-n.ensures.bytes.0),
    )
