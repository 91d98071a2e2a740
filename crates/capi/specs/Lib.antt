-- How the C interface writes what the library yields.
pub mod Codes
pub mod Leaves
pub mod Answers
