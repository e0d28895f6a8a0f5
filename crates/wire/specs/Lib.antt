-- What reading and writing do, whether they end well or in an error.
pub mod Moved
