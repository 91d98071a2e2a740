pub mod Offsets
pub mod Rates
pub mod Scales
pub mod Ranking
