-- What the call promises.
pub mod Says
