-- What follows from decode's promise.
pub mod Unique
pub mod Promised
pub mod Kept
