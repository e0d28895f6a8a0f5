-- Laws of answers.
pub mod Laws
