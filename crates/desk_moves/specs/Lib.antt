-- Moves: the ring of the latest ones, taking back, and the game of a sitting.
pub mod Ring
pub mod TakeBack
pub mod Game
