-- The planner's definitions: sweeps from right to left, and the tables they make; a nest's dependences by their homes.
pub mod Sweep
pub mod Plan
pub mod Home
