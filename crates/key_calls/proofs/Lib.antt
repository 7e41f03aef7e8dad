-- That the program answers what the desk's calls give.
pub mod Calls
