-- The settings of a Panako query and the vote of one pair of hashes, as document 01 has them.
pub mod Settings
pub mod Grids
pub mod Votes
pub mod Words
