-- Why the text of an argument is read as it was written, and why it is not long.
pub mod ReadsBack
pub mod Plain
pub mod Made
pub mod Claims
pub mod Falling
pub mod Steps
pub mod Numbers
pub mod Longest
pub mod Given
