pub mod Reading
pub mod Turns
pub mod Printed
pub mod Held
pub mod Cards
