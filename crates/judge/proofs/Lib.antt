-- Laws of judging a plan, and of the start of its walk.
pub mod Starting
pub mod Judged
