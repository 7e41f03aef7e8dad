-- The planner's definitions, read off the code's arrays, and the first of two numbers that is not 0.
pub mod Firsts
pub mod Listed
