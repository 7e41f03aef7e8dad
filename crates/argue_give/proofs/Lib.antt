-- Laws of claims that are given one after the other: one claim more; the claims of a row; those of a loop.
pub mod Giving
pub mod Rowing
pub mod Heads
