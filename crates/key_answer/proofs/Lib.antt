-- Laws of the program's answers.
pub mod Lengths
pub mod Both
pub mod Answering
