-- Laws that belong to no one function.
pub mod Put
pub mod Insert
pub mod Tally
