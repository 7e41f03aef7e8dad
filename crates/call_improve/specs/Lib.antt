-- Fewer calls where loops run once: tries, rounds and a floor; what the call promises; the tables that the code keeps,
-- and what its functions promise.
pub mod Tries
pub mod Rounds
pub mod Floor
pub mod Says
pub mod Results
pub mod Places
pub mod Tops
pub mod Cheapest
pub mod Steps
