-- Where a dependence lies, and ranges of gaps put.
pub mod Lies
pub mod Ranges
