-- One sweep of a lap, with its steps.
pub mod Traced
