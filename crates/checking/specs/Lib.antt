-- What check promises.
pub mod Promise
