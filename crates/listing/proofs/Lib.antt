-- Laws of the listing.
mod Judged
mod Kept
pub mod Unique
pub mod Promised
