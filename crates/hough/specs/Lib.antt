-- Panako's Hough consolidation and what it asks of its bins; then what the private functions say of each other.
pub mod Hough
pub mod Limits
pub mod Keys
