-- The answer that a query's best candidate gives; what a refused call leaves of all that it was lent.
pub mod Answers
pub mod Unchanged
