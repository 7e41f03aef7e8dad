-- Laws of the passes over the points.
pub mod Walk
pub mod Tallied
