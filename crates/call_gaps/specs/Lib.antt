-- The gaps of a dependence, and what the call promises.
pub mod Says
