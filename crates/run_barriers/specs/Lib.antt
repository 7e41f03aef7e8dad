-- Barrier calls in a run.
pub mod Calls
