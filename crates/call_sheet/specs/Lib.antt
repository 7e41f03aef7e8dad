-- Timing sheets, and what the call says of them.
pub mod Sheets
pub mod Says
