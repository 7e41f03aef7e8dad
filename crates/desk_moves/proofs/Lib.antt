-- Laws of moves: the ring as a list, taking back, and the game of a sitting.
pub mod Ring
pub mod TakeBack
pub mod Game
