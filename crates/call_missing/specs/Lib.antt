-- Loops that may not run: what they are foreign to, and which of them need a barrier for their missing run.
pub mod Foreign
pub mod Listed
pub mod Reached
-- what the code says
pub mod Says
pub mod Missing
pub mod Covering
