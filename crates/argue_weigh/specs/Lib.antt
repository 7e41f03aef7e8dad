-- A claim over tables: what the code for one step, and for the end of a claim, promises.
pub mod Naming
pub mod Striking
pub mod Excluding
pub mod Taking
