-- The gaps of a dependence as words, and the call.
pub mod Answers
