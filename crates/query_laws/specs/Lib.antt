-- The candidates of a query; facts of every element.
pub mod Candidates
pub mod Props
