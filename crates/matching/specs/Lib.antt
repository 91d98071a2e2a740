-- Offsets, rates, scores and results, as document 01 has them.
pub mod Offsets
pub mod Rates
pub mod Scores
pub mod Scales
pub mod Results
