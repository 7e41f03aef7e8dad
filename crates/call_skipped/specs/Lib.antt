-- Loops that may not run, of one dependence: on which of them a placement relies, and which have one of its ends alone.
pub mod Relied
pub mod OneEnd
-- what the calls promise, and what the loops that they give are good for
pub mod Says
pub mod Skipped
