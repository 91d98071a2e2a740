-- The program sheet: what a card's bytes mean, and what is printed for them.
pub mod Ends
pub mod Sheet
pub mod Turns
pub mod Held
pub mod Lines
pub mod Examples
