pub mod Votes
pub mod Codes
pub mod Binned
pub mod Distinct
pub mod Examples
