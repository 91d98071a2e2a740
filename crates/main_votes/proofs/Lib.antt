-- Laws that belong to no one function.
pub mod Kept
pub mod Mains
