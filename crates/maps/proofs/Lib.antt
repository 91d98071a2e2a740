-- Laws that belong to no one function.
pub mod Tests
pub mod Sums
pub mod Lists
pub mod Words
pub mod Entries
pub mod Members
pub mod Puts
