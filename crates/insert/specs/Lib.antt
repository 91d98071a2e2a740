-- What an insertion would do, writes, answers and leaves.
pub mod Writing
pub mod Planned
pub mod Insert
