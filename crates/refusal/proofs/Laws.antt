-- A refusal is known by its number, and an answer by its number and its value. So a promise that fixes both fixes the answer.
-- Assumes nothing.
use Rattle.std.proofs.Common.{◌≡◌, ◌<◌, ℕ, [], ◌∷◌, get_or, refl, sym, ap, ◌∙◌, arith}
use Rattle.std.specs.Prelude.{Result, Ok, Err}
use Rattle.ladder.specs.Refusals.{◌then◌, refusing}
use Rattle.ladder.proofs.Tests.{then_first, then_next, refusing_no, refusing_yes}
use Rattle.refusal.specs.declared.Refusal.{Refusal}
use Rattle.refusal.specs.declared.Refusal.TheVariants.{Dim, Length, Shape, Scalar, Order, Row, Modulus, Element, Trailer, Big}
use Rattle.refusal.specs.Answers.{number, refusal_of, answer_or}

-- No refusal has the number 0 ..
pub number_positive : (e : Refusal) → 0 < number e
number_positive Dim = omega arith
number_positive Length = omega arith
number_positive Shape = omega arith
number_positive Scalar = omega arith
number_positive Order = omega arith
number_positive Row = omega arith
number_positive Modulus = omega arith
number_positive Element = omega arith
number_positive Trailer = omega arith
number_positive Big = omega arith

-- .. so of two refusals in a row a call's is the first, where there is one ..
pub then_refused : (e : Refusal) (m n : ℕ) → number e ≡ m → (m then n) ≡ number e
then_refused e m n judged = rw (← judged) (then_first (number e) n (λ none. omega (arith, number_positive e)))

-- .. else the second ..
pub then_passed : (m n : ℕ) → m ≡ 0 → (m then n) ≡ n
then_passed m n none = then_next m n none

-- .. what a refusing call leaves is what it was lent, and what stands for its answer ..
pub refused : {A : Type 0} (e : Refusal) (none accepted : A) → none ≡ refusing (number e) none accepted
refused e none accepted = sym (refusing_yes (number e) none accepted (λ z. omega (arith, number_positive e)))

-- .. and each has its own number.
numbered : ℕ → Refusal
numbered n = get_or (Big ∷ Dim ∷ Length ∷ Shape ∷ Scalar ∷ Order ∷ Row ∷ Modulus ∷ Element ∷ Trailer ∷ []) n Big

numbered_number : (e : Refusal) → numbered (number e) ≡ e
unfolding numbered
numbered_number Dim = refl
numbered_number Length = refl
numbered_number Shape = refl
numbered_number Scalar = refl
numbered_number Order = refl
numbered_number Row = refl
numbered_number Modulus = refl
numbered_number Element = refl
numbered_number Trailer = refl
numbered_number Big = refl

pub same_refusal : (e f : Refusal) → number e ≡ number f → e ≡ f
same_refusal e f same = sym (numbered_number e) ∙ ap numbered same ∙ numbered_number f

-- No second answer has the same number and the same value.
pub same_answer : {A : Type 0} (none : A) (r s : Result A Refusal) → refusal_of r ≡ refusal_of s → answer_or none r ≡ answer_or none s → r ≡ s
same_answer none (Ok a) (Ok b) n v = ap Ok v
same_answer none (Ok a) (Err f) n v = absurd (omega (arith, number_positive f))
same_answer none (Err e) (Ok b) n v = absurd (omega (arith, number_positive e))
same_answer none (Err e) (Err f) n v = ap Err (same_refusal e f n)

-- What a call that refuses nothing leaves and answers is what is accepted.
pub accepted : {A : Type 0} (none accepted : A) → accepted ≡ refusing 0 none accepted
accepted none value = sym (refusing_no 0 none value refl)
