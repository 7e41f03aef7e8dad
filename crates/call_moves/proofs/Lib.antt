-- Laws of the calls at the screen, and the theorems over runs of them.
pub mod Moving
pub mod Backs
pub mod Made
pub mod Runs
