-- Laws of the calls for C and for Rust.
mod Bodies
pub mod InPlace
pub mod Promised
pub mod Unique
