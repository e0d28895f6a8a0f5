-- The table's number of each refusal; and of a call's answer, which is a value or a refusal, its number and its value. The promises say
-- what these two are, on all input.
-- Assumes nothing.
use Rattle.std.specs.Prelude.{ℕ, Result, Ok, Err}
use Rattle.ladder.specs.Refusals.{DIM, LENGTH, SHAPE, SCALAR, ORDER, ROW, MODULUS, ELEMENT, TRAILER, BIG}
use Rattle.refusal.specs.declared.Refusal.{Refusal}
use Rattle.refusal.specs.declared.Refusal.TheVariants.{Dim, Length, Shape, Scalar, Order, Row, Modulus, Element, Trailer, Big}

abbrev pub number : Refusal → ℕ
number Dim = DIM
number Length = LENGTH
number Shape = SHAPE
number Scalar = SCALAR
number Order = ORDER
number Row = ROW
number Modulus = MODULUS
number Element = ELEMENT
number Trailer = TRAILER
number Big = BIG

-- The number of an answer: 0, that is OK, where nothing is refused.
abbrev pub refusal_of : {A : Type 0} → Result A Refusal → ℕ
refusal_of (Ok value) = 0
refusal_of (Err refusal) = number refusal

-- The value of an answer: on refusal the first argument, which is 0 or no.
abbrev pub answer_or : {A : Type 0} → A → Result A Refusal → A
answer_or none (Ok value) = value
answer_or none (Err refusal) = none
