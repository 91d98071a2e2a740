-- What the float operations mean, in the kit's account of IEEE 754.
pub mod Rounding
pub mod Selection
pub mod Words
