-- What one write takes stands in the output behind what was written before; `rest` is what the write is handed.
-- Assumes nothing.
use Rattle.std.proofs.Common.{◌≡◌, ◌-◌, ◌++◌, length, take, drop, sym, ap, ◌∙◌, subst, arith, rules, length-drop}
use Rattle.std.specs.Io.KnownBytes.{Appends}
use Rattle.std.proofs.KnownBytes.{Appends-trans}
use Rattle.std.proofs.Math.Seq.{take-add, take_all}
use Rattle.wire.proofs.line.write_full.Goals as goal

pub loop-done-preserved : goal.loop-done-preserved
loop-done-preserved g c =
    let l = c.loop-done in
    let bytes = c.args.bytes.now in
    let n = c.in_ok-n.n in
    let rest : take (length bytes - l.done) (drop l.done bytes) ≡ drop l.done bytes = take_all _ _ (omega (arith, length-drop l.done bytes)) in (
      search rules,
      subst (Appends _ _) (sym (take-add l.done n bytes ∙ ap (λ xs. take l.done bytes ++ take n xs) (sym rest)))
          (Appends-trans _ _ _ _ _ l.invariant.1 c.in_ok-n.ensures.bytes),
    )
