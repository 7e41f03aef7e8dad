-- What the calls say that count barrier calls in a run.
pub mod Says
pub mod Fewest
