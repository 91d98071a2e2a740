-- Laws of a Wang query's votes and candidates.
pub mod Deltas
pub mod Anchors
pub mod Pairs
pub mod Turns
pub mod Sorted
pub mod Queries
