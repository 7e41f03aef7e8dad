-- Laws of the calls that count: what each way through them says, and that no correct placement has fewer calls.
pub mod Countable
pub mod Answers
pub mod Fewest
