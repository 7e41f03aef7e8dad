-- Why the argument that is given is the key's, and holds.
pub mod Replies
pub mod Holds
