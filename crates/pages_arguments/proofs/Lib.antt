-- Why arguments are worth that, and what a call's reply is worth.
pub mod Kept
pub mod Weighing
pub mod Giving
