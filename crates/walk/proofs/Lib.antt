-- Laws of the walk state and its step.
pub mod Judged
pub mod Unique
pub mod Promised
pub mod Kept
