-- The gates of a candidate.
pub mod Gates
pub mod Weighing
