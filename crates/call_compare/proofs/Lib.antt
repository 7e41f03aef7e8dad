-- Laws of the call.
pub mod Replies
