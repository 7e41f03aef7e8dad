-- Two papers into one: the joint nest, and what joining two texts promises.
pub mod JointNests
pub mod Written
pub mod Says
