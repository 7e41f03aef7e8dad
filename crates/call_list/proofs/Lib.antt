-- Laws of the list.
pub mod ShortEnds
pub mod Steps
pub mod Turns
