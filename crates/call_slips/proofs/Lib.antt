-- Laws of slips: their numbers and lengths, how they are written, the placement that is read, that the candidate's shows no
-- key.
pub mod Bytes
pub mod Lengths
pub mod Joined
pub mod Longest
pub mod CutLines
pub mod SlipCases
pub mod Answers
pub mod Alike
