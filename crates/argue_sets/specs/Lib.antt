-- The sets that the steps of a lap name.
pub mod Numbered
