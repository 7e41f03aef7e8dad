-- The claims of all loops, given from the planner's tables.
pub mod Whole
