-- Laws of the difference run.
pub mod Multiples
pub mod Combining
pub mod Differences
pub mod NewRegisters
pub mod Stepping
pub mod Running
pub mod Ran
