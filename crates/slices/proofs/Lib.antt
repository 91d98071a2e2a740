-- Laws that belong to no one function.
pub mod Pasted
pub mod Moved
