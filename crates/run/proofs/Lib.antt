-- What follows from the promises of the runs.
pub mod Unique
pub mod Promised
