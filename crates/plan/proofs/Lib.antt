-- Laws that speak of more than one call, from the promises alone.
pub mod Encoding
pub mod Runs
pub mod Files
