-- Laws that belong to no one function.
pub mod Words
pub mod Modes
pub mod Peaks
pub mod Gates
