-- Laws of the program.
pub mod Reading
