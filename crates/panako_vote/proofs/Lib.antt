pub mod Sizes
pub mod Bins
pub mod Pairs
pub mod Limits
pub mod Bounds
pub mod Units
pub mod Words
pub mod Examples
