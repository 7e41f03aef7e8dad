-- The shape of a nest, and what the call promises.
pub mod Shapes
pub mod Says
