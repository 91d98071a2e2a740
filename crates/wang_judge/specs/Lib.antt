-- The judge of one Wang candidate and the scheme; worked examples; then what the code says of its words.
pub mod Judge
pub mod Scheme
pub mod Examples
pub mod Candidates
