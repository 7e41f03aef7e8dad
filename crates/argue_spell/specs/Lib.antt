-- Claims and steps spelled into a lent buffer.
pub mod Added
