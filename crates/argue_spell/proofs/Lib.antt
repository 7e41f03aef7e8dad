-- Laws of texts that are added to a buffer.
pub mod Adding
