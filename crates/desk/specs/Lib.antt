-- Desks: what they hold, what a desk made by calls is, and what each public call says.
pub mod Desks
pub mod Says
pub mod Since
pub mod TwoDesks
pub mod ReadAgain
