-- Laws of a query's votes and candidates, of either index.
pub mod Lists
pub mod Gathering
pub mod Ranks
pub mod Judged
pub mod Main
pub mod Groups
pub mod Turns
pub mod Sorted
pub mod Answers
pub mod Sound
pub mod Meaning
pub mod Queries
