-- The laws of what is read.
pub mod Losing
