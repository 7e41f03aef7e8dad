-- What an argument is worth, over the page of the demands, and what the calls that weigh one tell.
pub mod Argued
pub mod Weighing
pub mod Giving
