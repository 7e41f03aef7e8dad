-- What requests 4 to 8 promise, a page each, over the page of the demands.
pub mod Sitting
pub mod FirstKey
pub mod Barred
pub mod Textbook
