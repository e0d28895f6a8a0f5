-- `plain_steps` meets its contract: the first d + 1 words are those that the steps leave.
-- Assumes nothing.
use Rattle.std.proofs.Common.{◌≡◌, ℕ, List, suc, length, take, ◌++◌, sym, ap, ◌∙◌, add-one}
use Rattle.std.proofs.Math.Seq.{take-append_seam}
use Rattle.ladder.specs.Numbers.{bits_at}
use Rattle.ladder.specs.Registers.{plain_rule, registers_after}
use Rattle.plain.proofs.steps.plain_steps.Goals as goal

-- A list's front, where another follows it.
front : (n : ℕ) (xs ys : List ℕ) → length xs ≡ n → take n (xs ++ ys) ≡ xs
front n xs ys e = ap (λ i. take i (xs ++ ys)) (sym e) ∙ take-append_seam xs ys

pub returns : goal.returns
returns c S =
    let d = c.args.d in
    let start = c.args.start.words in
    front (suc d) c.steps_in_pairs.new.regs _ (c.steps_in_pairs.auto.regs ∙ ap (λ n. length (take n start)) (add-one d) ∙ c.requires.step.rows)
    ∙ c.steps_in_pairs.ensures S
    ∙ ap (λ n. registers_after (plain_rule c.args.m) d S (bits_at d c.args.bits.now) (take n start) c.args.l) (add-one d)
