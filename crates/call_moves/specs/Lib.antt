-- The calls at the screen: what each says, and what runs of them say.
pub mod Says
pub mod Runs
