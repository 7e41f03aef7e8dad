-- Lines and frames: how bytes are read and written.
pub mod Lines
pub mod Reading
pub mod Writing
