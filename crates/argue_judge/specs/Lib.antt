-- An argument judged over tables: what is excluded before any claim, the end of a claim, the low claims at the end.
pub mod Starts
pub mod Ends
pub mod Opened
pub mod Judging
