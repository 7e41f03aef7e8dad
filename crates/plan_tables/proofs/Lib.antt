-- Laws of the tables: entries of a list after a store; the pass over the points; the home of a dependence; the cells
-- of a table; the pass over the dependences; a row narrowed; the limits; all of it together.
pub mod Entries
pub mod Charting
pub mod Climbing
pub mod Cells
pub mod Entering
pub mod Collecting
pub mod Narrowing
pub mod Limits
pub mod Preparing
