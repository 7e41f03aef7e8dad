-- Laws of a lap's sweep with its steps.
pub mod Finding
pub mod Events
pub mod Turns
