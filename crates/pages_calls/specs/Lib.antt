-- What requests 9 to 14 promise of their calls, what holding two placements beside each other does, and what is told of
-- loops that may not run for one dependence, a page each.
pub mod MissingRuns
pub mod SkippedLoops
pub mod Compare
pub mod Slips
pub mod Join
pub mod CallsInRun
pub mod Improve
pub mod Sheets
