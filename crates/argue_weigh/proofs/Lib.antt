-- Why the code for one step, and for the end of a claim, does what the definition says.
pub mod Steps
pub mod Stepping
pub mod Strikes
pub mod Excluding
pub mod StepSets
pub mod Taking
