-- Slips for two readers: their text, what the two calls say, and that the candidate's shows no key.
pub mod Texts
pub mod Says
pub mod Alike
pub mod Writers
