-- Why the tables and the end of a claim are what the definition says, and stay so from line to line.
pub mod Starts
pub mod Ends
pub mod Closing
pub mod Sizes
pub mod Turns
pub mod Lines
