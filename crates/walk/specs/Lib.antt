-- What the walk's contracts cite.
pub mod WalkState
pub mod Stepped
pub mod Promise
