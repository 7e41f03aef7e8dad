-- What the program answers.
pub mod Answers
