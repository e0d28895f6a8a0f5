-- Laws of a step's bits, and of the step of an order and of signs.
pub mod StepBits
pub mod Filling
pub mod Turning
pub mod SmallSigns
pub mod SignedByte
pub mod Stepping
pub mod Moving
pub mod Reading
pub mod Additions
pub mod WalkBlock
pub mod PlanWalk
