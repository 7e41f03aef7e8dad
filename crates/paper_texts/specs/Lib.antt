-- Nest texts, their pieces, and placement texts: how they are read, refused and spelled; and what the program writes.
pub mod Pieces
pub mod NestTexts
pub mod PlacementTexts
pub mod Counts
pub mod Program
pub mod Reads
