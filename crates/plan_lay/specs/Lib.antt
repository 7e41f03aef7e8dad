-- What a loop lays, as words.
pub mod Laid
