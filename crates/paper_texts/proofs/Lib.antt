-- Laws of texts.
pub mod Shapes
pub mod Pieces
pub mod BlankPaper
pub mod Spelled
pub mod Refusals
pub mod Accepted
pub mod OneSpelling
pub mod ReadsBack
pub mod PlacedTexts
pub mod ProgramTexts
pub mod TextCases
pub mod Faults
pub mod Loading
pub mod Barriers
pub mod Placing
pub mod Written
pub mod Counting
