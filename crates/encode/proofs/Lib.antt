-- The laws that the encoder's proofs rest on.
pub mod Digits
pub mod Dealt
pub mod Parting
pub mod Filled
pub mod Written
pub mod Backward
pub mod Judged
pub mod Kept
-- What follows from the promise alone.
pub mod Unique
pub mod Promised
