-- The table's words: what a refusal is printed as.
-- Assumes nothing.
use Rattle.std.specs.Prelude.{ℕ, List, codes}
use Rattle.refusal.specs.declared.Refusal.{Refusal}
use Rattle.refusal.specs.declared.Refusal.TheVariants.{Dim, Length, Shape, Scalar, Order, Row, Modulus, Element, Trailer, Big}

abbrev pub words : Refusal → List ℕ
words Dim = codes "d is not 1 to 8"
words Length = codes "l is not 1 to 576"
words Shape = codes "a buffer has another length than the call asks, or a step's number is not below 2^d"
words Scalar = codes "a scalar is not below 2^l"
words Order = codes "an order does not have each of 1 to d once, or a walk state has another fault"
words Row = codes "the answer row is not 1 to d+1"
words Modulus = codes "a modulus is above 2^63"
words Element = codes "an element is not below a modulus other than 0"
words Trailer = codes "a plan file is shorter than 12 bytes, does not end with the mark `dmul`, or has a wrong back distance"
words Big = codes "more than 4,096 bytes are to be listed"
