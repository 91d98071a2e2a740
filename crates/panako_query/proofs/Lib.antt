-- Laws of a Panako query's votes and candidates.
pub mod Pairs
pub mod Turns
pub mod Few
pub mod Main
pub mod Sorted
pub mod Queries
