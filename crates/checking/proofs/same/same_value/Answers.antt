-- `same_value` meets its contract: the first words are the scalar's and the rest is 0 exactly where the numbers are the same.
-- Assumes nothing.
use Rattle.std.proofs.Common.{rules, ◌≡◌, ◌^◌, ◌<◌, ℕ, ◌↔◌, sym, ◌∙◌, length, take, get_or}
use Rattle.std.proofs.lemmas.Bool.Decides.{Decides-eqb}
use Rattle.std.proofs.lemmas.Slice.Eq.{slice_eq-Decides}
use Rattle.std.specs.Bool.{IsTrue}
use Rattle.std.specs.List.{EachIndex, slice_index}
use mathlib.Core.Bool.{false≢true}
use Rattle.checking.proofs.Equality.{decided, value_same, value_low, value_high}
use Rattle.checking.proofs.same.same_value.Goals as goal

pub returns-then-eq : goal.returns-then-eq
returns-then-eq c =
    let a = c.args.value.now in
    let b = c.args.scalar.now in
    let high = c.split_at.result.1.now in
    let fits : (i : ℕ) → get_or b i 0 < 2 ^ 64 = search rules in
    let low : take (length b) a ≡ b = sym c.split_at.ensures.front ∙ (slice_eq-Decides Decides-eqb _ _ _ c.eq.ensures).0 c.if-eq.true in
    let zero : IsTrue c.all.result ↔ EachIndex high (λ k. slice_index high k ≡ 0) = search rules in
    decided c.all.result _ _
    (λ t. value_same a b c.requires low (rw (← c.split_at.ensures.back) (zero.0 t)))
    (λ e. zero.1 (rw c.split_at.ensures.back (value_high a b c.requires (λ i. (c.type_inv.value i).fits) fits e)))

pub returns-else-eq : goal.returns-else-eq
returns-else-eq c =
    let a = c.args.value.now in
    let b = c.args.scalar.now in
    let fits : (i : ℕ) → get_or b i 0 < 2 ^ 64 = search rules in
    let same = slice_eq-Decides Decides-eqb _ _ _ c.eq.ensures in
    decided c.eq.result _ _
    (λ t. absurd (false≢true (sym c.if-eq.false ∙ t)))
    (λ e. same.1 (c.split_at.ensures.front ∙ value_low a b c.requires (λ i. (c.type_inv.value i).fits) fits e))
