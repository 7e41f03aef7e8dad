-- The starts of a loop, their events and what a sweep makes from each of them on.
pub mod Grounds
pub mod Started
