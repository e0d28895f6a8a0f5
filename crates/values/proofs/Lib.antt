-- Laws of decoding by a walk.
pub mod Words
pub mod Pushing
pub mod Partly
pub mod Lowering
pub mod Above
pub mod Raising
pub mod Answering
