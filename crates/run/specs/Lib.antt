-- What the runs promise.
pub mod Promise
