-- Laws of the pass over the loops of a nest.
pub mod Weighing
pub mod ByTables
