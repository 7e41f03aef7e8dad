-- Laws of desks.
pub mod Held
pub mod Loads
pub mod Ready
pub mod Answers
pub mod Choosing
pub mod Judged
pub mod Made
pub mod TwoDesks
pub mod ReadAgain
pub mod Over
pub mod ListCases
pub mod Unread
-- the promises can be kept, and which calls they exclude
pub mod Promises
pub mod Excluded
