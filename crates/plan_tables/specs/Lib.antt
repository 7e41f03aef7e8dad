-- What the planner's tables hold, by the definitions of nests and of the planner.
pub mod Charts
pub mod Collected
pub mod Prepared
