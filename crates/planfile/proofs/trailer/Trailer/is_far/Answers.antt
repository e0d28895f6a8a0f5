-- `is_far` meets its contract: no sum wraps (`body_few`).
-- Assumes nothing.
use Rattle.std.proofs.Common.{◌≡◌, ◌+◌, ◌&&◌, arith, ap, sym, ◌∙◌, length}
use lib.Dec.{eqb, leb}
use borrow.Author.Tests.{eq-eqb, ne_eqb}
use Rattle.ladder.specs.PlanFile.{body_length, trailer_size}
use Rattle.planfile.proofs.Held.{body_few}
use Rattle.planfile.proofs.trailer.Trailer.is_far.Goals.{After-bits_length}
use Rattle.planfile.proofs.trailer.Trailer.is_far.Goals as goal

-- d and the bytes of the bits make the body's length.
long : (c : After-bits_length) → (let t = c.args.self.now.says in t.d + c.bits_length.result ≡ body_length t.d t.l)
unfolding body_length
long c = ap (λ n. c.args.self.now.says.d + n) c.bits_length.ensures

pub overflow_add-self : goal.overflow_add-self
overflow_add-self c = omega (arith, long (goal.at.overflow_add-self c).After-bits_length, body_few c.requires)

pub overflow_add-result : goal.overflow_add-result
overflow_add-result c = omega (arith, long (goal.at.overflow_add-result c).After-bits_length, body_few c.requires)

pub returns-then-self-bits_length : goal.returns-then-self-bits_length
unfolding trailer_size
returns-then-self-bits_length c =
    let far = eq-eqb _ _ (c.if-self-bits_length.true ∙ long (goal.at.returns-then-self-bits_length c).After-bits_length) in
    sym (ap (λ t. t && leb (c.args.self.now.distance + 12) (length c.args.self.now.file.now)) far)

pub returns-else-self-bits_length : goal.returns-else-self-bits_length
returns-else-self-bits_length c =
    let body = long (goal.at.returns-else-self-bits_length c).After-bits_length in
    let near = ne_eqb _ _ c.if-self-bits_length.false in
    let before = leb (c.args.self.now.distance + trailer_size) (length c.args.self.now.file.now) in
    near ∙ sym (ap (λ t. t && before) (ap (eqb c.args.self.now.distance) (sym body) ∙ near))
