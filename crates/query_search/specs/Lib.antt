-- Where the postings of each query hash begin and end; whose postings vote, with examples; the words that are gathered with them.
pub mod Starts
pub mod Voting
pub mod Examples
pub mod Gathered
