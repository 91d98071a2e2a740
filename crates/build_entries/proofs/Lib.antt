-- Laws of entries and rows laid down one behind the other.
pub mod Prefix
pub mod Rows
pub mod Placing
