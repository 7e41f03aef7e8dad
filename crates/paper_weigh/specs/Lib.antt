-- Which of two placements is better, as the code answers it.
pub mod Weighed
