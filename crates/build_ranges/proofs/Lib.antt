-- Laws of ranks, codes and their order.
pub mod Sorts
pub mod Ranks
pub mod Held
pub mod Order
pub mod Widths
pub mod Props
