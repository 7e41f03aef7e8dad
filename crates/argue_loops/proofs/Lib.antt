-- Laws of the claims of all loops: those of the loop at a point; those of all loops, one after the other.
pub mod Points
pub mod Looping
