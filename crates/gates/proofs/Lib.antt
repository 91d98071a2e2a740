-- The gates one after the other.
pub mod Passing
