-- What decode promises.
pub mod Promise
