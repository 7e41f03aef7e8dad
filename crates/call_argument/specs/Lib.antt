-- An argument text weighed: what the calls promise.
pub mod Says
