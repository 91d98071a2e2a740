pub mod Rows
pub mod Places
pub mod Walking
pub mod Summing
pub mod Pairs
pub mod Merging
pub mod Frames
pub mod Checks
