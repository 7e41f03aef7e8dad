-- Laws of the starts of a loop.
pub mod Seeks
pub mod Marks
pub mod Marking
pub mod Happenings
pub mod Passes
pub mod Ends
pub mod Suffixes
pub mod Filling
pub mod Eventing
pub mod Following
pub mod Whole
