-- Signs as an i8: one that is 1 or -1 comes back from its bits, and its negation fits.
-- Assumes nothing.
use mathlib.Core.Path.{◌≡◌, sym, ap, ◌∙◌}
use mathlib.Core.Logic.{⊎_elim}
use lib.IntN.{ℤ, pos, neg_ℤ, ◌-ℤ◌}
use mir.Syntax.{w8}
use mir.Val.{SFits, to_z, of_z}
use mir.Facts.{sfits_lit, to_z-of_z}
use Rattle.ladder.specs.Matrix.{IsUnit}

pub unit_kept : (s : ℤ) → IsUnit s → to_z w8 (of_z w8 s) ≡ s
unit_kept s = ⊎_elim (λ e. rw e) (λ e. rw e)

pub unit_fits : (s : ℤ) → IsUnit s → SFits w8 (pos 0 -ℤ to_z w8 (of_z w8 s))
unit_fits s = ⊎_elim (λ e. rw e (sfits_lit tt)) (λ e. rw e (sfits_lit tt))

pub unit_turned : (s : ℤ) → IsUnit s → to_z w8 (of_z w8 (pos 0 -ℤ to_z w8 (of_z w8 s))) ≡ neg_ℤ s
unit_turned s = ⊎_elim (λ e. rw e) (λ e. rw e)

-- Signs with the same bits are the same.
pub same_sign : {s z : ℤ} → SFits w8 s → SFits w8 z → of_z w8 s ≡ of_z w8 z → s ≡ z
same_sign f g e = sym (to_z-of_z f) ∙ ap (to_z w8) e ∙ to_z-of_z g
