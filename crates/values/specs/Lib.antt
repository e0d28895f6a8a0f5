-- Only inner contracts need these: nothing here is to be believed.
pub mod Inner
