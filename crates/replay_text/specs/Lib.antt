pub mod Digits
pub mod Words
pub mod Contents
pub mod Letters
