-- What the numbers of refusals keep.
pub mod Numbers
