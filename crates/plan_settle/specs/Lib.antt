-- The planner's tables as the code's arrays, by height.
pub mod Settled
