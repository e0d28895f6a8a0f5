-- `Promise` is what encode promises. `Inner` holds what only inner contracts need: no promise rests on it.
pub mod Promise
pub mod Inner
