-- Laws that belong to no one function.
pub mod Erased
pub mod Runs
