-- Placements: cuts and counts; placements as words.
pub mod Placements
pub mod GapLists
pub mod Words
pub mod Answers
