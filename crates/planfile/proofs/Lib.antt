-- Laws of the plan file.
pub mod Marks
pub mod Held
pub mod Clearing
pub mod Laid
pub mod Kept
pub mod Unique
pub mod Promised
pub mod Packed
pub mod Prefaced
