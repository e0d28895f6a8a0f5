-- What the program writes.
pub mod Promise
