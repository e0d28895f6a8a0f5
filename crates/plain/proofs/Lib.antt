-- Laws of the plain run.
pub mod Stepping
pub mod Ran
