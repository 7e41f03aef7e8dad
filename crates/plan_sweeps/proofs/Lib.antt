-- Laws of a sweep over lists.
pub mod Firsts
pub mod Seek
pub mod Steps
pub mod Turns
