-- Laws of check.
pub mod Comparing
pub mod Equality
pub mod Left
pub mod Unique
pub mod Promised
pub mod Kept
