pub mod Sums
pub mod Lists
pub mod Words
pub mod Entries
pub mod Bins
pub mod Examples
pub mod Puts
