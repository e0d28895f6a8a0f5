-- What the promises of the calls say of answers.
pub mod Answers
pub mod Words
