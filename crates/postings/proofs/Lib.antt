-- Laws that belong to no one function.
pub mod Names
pub mod Search
pub mod Listing
pub mod Compact
