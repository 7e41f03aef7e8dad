-- Laws of the passes that test turns and count calls.
pub mod Fitting
pub mod Timing
pub mod Summing
