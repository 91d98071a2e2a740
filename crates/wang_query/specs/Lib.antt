-- The candidates of a Wang query, what its postings and hashes are asked, and its answer.
pub mod Candidates
pub mod Props
pub mod Asked
