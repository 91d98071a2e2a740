-- Laws that belong to no one function.
pub mod Passes
pub mod Rows
pub mod Vacant
pub mod Postings
pub mod Stopped
pub mod Sound
pub mod Refusal
