-- The mode, the box sweep, and what they ask of their bins; then what the private functions say of each other.
pub mod Runs
pub mod Modes
pub mod Box
pub mod Limits
pub mod Windows
pub mod Tallies
pub mod Sweeping
