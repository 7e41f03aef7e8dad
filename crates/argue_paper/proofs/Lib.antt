-- Laws of the argument of a paper: the costs of loops; from the tables to the argument; papers with barred gaps.
pub mod Costs
pub mod Tables
pub mod Papers
