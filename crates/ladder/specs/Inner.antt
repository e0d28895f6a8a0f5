-- Definitions that only inner contracts need; a reader need not believe them.
pub mod Decoding
