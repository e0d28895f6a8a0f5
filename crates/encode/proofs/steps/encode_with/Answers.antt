-- `encode_with` meets its contract. Rests on the start, the step and the end of `Behind`.
-- Assumes nothing.
use Prim.Native.Nat.{suc}
use mathlib.Core.Path.{refl, ap, ◌∙◌}
use mathlib.Core.List.{map}
use native.Mathlib.Omega.{arith}
use Rattle.ladder.proofs.Bits.{bits_bound}
use Rattle.encode.proofs.Backward.{few_filling, nothing_behind, columns, one_more_behind, all_behind_order, all_behind_bits}
use borrow.Author.Rules.{rules}
use Rattle.encode.proofs.steps.encode_with.Goals as goal

pub overflow_mul-filling : goal.overflow_mul-filling
overflow_mul-filling c =
    let a = c.args in
    omega (arith, bits_bound a.d a.l (omega arith) (omega arith), few_filling a.d a.l a.bits.now c.requires.bits_len)

pub loop-i-init : goal.loop-i-init
loop-i-init c =
    let p = c.new-packer.ensures in
    (refl, nothing_behind _ _ _ c.requires.bits_len _ p.bytes p.at p.held p.fill _ _ _ c.gather-below.ensures)

pub deal-r-requires : goal.deal-r-requires
deal-r-requires c = columns c.requires.fitting c.requires.arrangement c.loop-i.invariant.1

pub loop-i-preserved : goal.loop-i-preserved
loop-i-preserved c = (
  c.put.ensures.same_reference ∙ c.loop-i.invariant.0,
  one_more_behind c.requires.fitting c.requires.arrangement c.loop-i.invariant.1 (omega arith)
      _ _ c.gather-above.ensures c.deal-r.ensures.0 _ _ c.put.ensures.put c.rearrange-before.ensures,
)

pub write_start-requires : goal.write_start-requires
write_start-requires c = rw c.requires.start_len (columns c.requires.fitting c.requires.arrangement c.loop-i.invariant.1)

pub returns-clause-start : goal.returns-clause-start
returns-clause-start c =
    c.write_start.ensures
    ∙ rw c.requires.start_len (ap (map suc) (all_behind_order c.requires.fitting c.requires.arrangement c.loop-i.invariant.1 (omega arith)))

pub returns-clause-bits : goal.returns-clause-bits
returns-clause-bits c =
    all_behind_bits c.requires.fitting c.requires.arrangement c.loop-i.invariant.1 (omega arith) _ (search rules)
    (λ i. omega (arith, c.type_inv.bits i))
