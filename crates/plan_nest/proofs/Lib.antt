-- Laws of the planner's code as a whole.
pub mod Planning
