-- The argument of the key, given: what the call promises.
pub mod Says
