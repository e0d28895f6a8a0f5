-- Definitions that only inner contracts need.
pub mod Order
pub mod Packing
