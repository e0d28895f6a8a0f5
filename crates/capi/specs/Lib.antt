-- What the contracts of the calls for C and for Rust cite.
pub mod Answers
pub mod Promise
