-- Which of two placements is better, loop by loop and by cost trees; keys; verdicts.
pub mod LoopOrder
pub mod Trees
pub mod Keys
pub mod Verdicts
