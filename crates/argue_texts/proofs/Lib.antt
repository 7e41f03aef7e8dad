-- How an argument text is read, and why the first line that does not hold tells whether an argument holds.
pub mod PartFaults
pub mod Walking
pub mod Holding
pub mod ArgumentCases
