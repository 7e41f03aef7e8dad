-- Laws of placements.
pub mod Words
pub mod Rising
pub mod GapLists
pub mod Lowest
pub mod Sets
pub mod Cuts
pub mod CutTest
pub mod Trying
pub mod Mask
pub mod Masked
pub mod Comparing
pub mod Inside
pub mod LoopLists
