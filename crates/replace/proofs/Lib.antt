-- What a replacement answers and leaves.
pub mod Refusals
pub mod Swapped
