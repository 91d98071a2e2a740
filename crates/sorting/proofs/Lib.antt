-- Laws that belong to no one function.
pub mod Order
pub mod Sorted
pub mod Runs
pub mod Compare
pub mod Slices
pub mod Inserting
pub mod Merging
pub mod Halves
