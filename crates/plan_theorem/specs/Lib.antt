-- The key of a nest, demand 3, and one key for one paper.
pub mod KeyOf
pub mod ListOrder
pub mod Demand3
pub mod OneKey
