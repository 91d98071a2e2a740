-- The votes of a Panako query.
pub mod Gathered
pub mod Listed
