-- `Promise` is what pack, unpack and body promise. `Inner` holds what only inner contracts need: no promise rests on it.
pub mod Promise
pub mod Inner
