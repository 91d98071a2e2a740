-- The votes of a Wang query.
pub mod Gathered
