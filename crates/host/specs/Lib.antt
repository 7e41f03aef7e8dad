-- The desk for programs in other languages: Mark's answer in numbers, a list of records in bytes.
pub mod Marks
pub mod Records
pub mod Says
