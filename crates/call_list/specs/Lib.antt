-- The list of dependences that a host lends: what the answer is after each record.
pub mod Lists
