-- Laws of a table written as bytes, and of the call.
pub mod Writing
pub mod Answers
