-- Laws of the search for all hashes together, and of the walks over the postings that it finds.
pub mod Steps
pub mod Levels
pub mod Meeting
pub mod Voting
pub mod Counting
pub mod Turns
pub mod Walks
pub mod Parts
pub mod Eighths
