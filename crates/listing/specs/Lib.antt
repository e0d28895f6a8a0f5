-- What the listing promises.
pub mod Promise
