pub mod Taken
pub mod Writing
pub mod Back
pub mod Merging
pub mod Runs
pub mod Weighing
pub mod Ordered
