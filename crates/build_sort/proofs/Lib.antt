-- Laws of digits and of the distribution by one.
pub mod Order
pub mod Counts
pub mod Filling
pub mod Keys
