-- Laws of the order, of keys and of verdicts.
pub mod DirectlyInside
pub mod LoopOrder
pub mod TreeOrder
pub mod Keys
pub mod Verdicts
pub mod Cases
