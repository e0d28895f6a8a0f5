-- What only inner contracts need; the promise stands in the crate `run`.
pub mod Inner
