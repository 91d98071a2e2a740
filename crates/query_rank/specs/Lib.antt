-- The verdict on a candidate; the best candidate of a query, its answer, and what it leaves of the scratch; what a refused call leaves.
pub mod Verdicts
pub mod Answers
pub mod Unchanged
