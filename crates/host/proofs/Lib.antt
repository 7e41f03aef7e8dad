-- Laws of the list over bytes.
pub mod Bytes
