-- The row of one loop, read off the code's arrays.
pub mod Valued
pub mod Made
