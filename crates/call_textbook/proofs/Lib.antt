-- Laws of the textbook method.
pub mod Greedy
pub mod Apart
pub mod Places
pub mod Lines
pub mod Tried
pub mod Results
pub mod Count
pub mod Cutting
pub mod Tables
pub mod Choosing
pub mod Endings
pub mod Joined
pub mod Alike
pub mod Laid
pub mod TextbookCases
pub mod Asking
