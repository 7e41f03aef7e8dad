-- The key of a nest, as words.
pub mod Planned
