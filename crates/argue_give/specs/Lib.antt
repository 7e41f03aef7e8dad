-- The claims of a loop, given one after the other.
pub mod Given
