-- Two placement texts held beside each other: what the call promises.
pub mod Says
