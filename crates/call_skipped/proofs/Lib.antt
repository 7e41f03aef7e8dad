-- Loops that may not run, of one dependence: the sets as words, and what each way through the calls says.
pub mod Relied
pub mod OneEnd
pub mod Answers
-- what the loops are good for; cases of the definitions
pub mod Skipped
pub mod SkippedCases
