-- Laws that belong to no one function.
pub mod References
pub mod RowWords
