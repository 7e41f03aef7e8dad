-- Laws of the passes that number the sets.
pub mod Numbering
