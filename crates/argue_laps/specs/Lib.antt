-- The laps of a claim, over tables.
pub mod Lapped
