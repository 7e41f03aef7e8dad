-- Arguments as texts, how they are read, and the first line of one that does not hold.
pub mod ArgumentTexts
pub mod Judged
pub mod Parts
