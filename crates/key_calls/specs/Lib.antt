-- What the desk's calls give for a text.
pub mod Calls
