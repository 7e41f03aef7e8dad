-- Laws of tables filled place by place, and of the pass over the points.
pub mod Filling
pub mod Passing
