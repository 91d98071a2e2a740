pub mod Words
pub mod Answered
