-- Papers with barred gaps: tables of ranks, dependences renumbered, the key.
pub mod Tables
pub mod Renumbering
pub mod Papers
