-- Timing sheets: fewer waits never end later, and no end falls below one processor's own work.
pub mod Latest
pub mod Sets
pub mod FewerWaits
pub mod OwnWork
pub mod SheetCases
-- for the code: the checks, and times passed on
pub mod Checking
pub mod Passing
pub mod Ending
pub mod Replies
