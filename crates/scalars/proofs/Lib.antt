-- Laws of numbers in words and of scalars as chunks of them, of scalars below 2^l, and of their bits.
pub mod Words
pub mod Chunks
pub mod Below
pub mod Gathered
