-- Laws of the calls, and what a reply without number is worth.
pub mod Replies
pub mod Holding
