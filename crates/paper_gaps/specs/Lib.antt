-- Where a dependence lies, and all its gaps put.
pub mod Lies
