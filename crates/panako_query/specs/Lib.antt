-- The candidates of a Panako query, what its postings and hashes are asked, and its answer.
pub mod Candidates
pub mod Props
pub mod Asked
