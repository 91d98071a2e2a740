-- Laws that belong to no one function.
pub mod Above
pub mod Votes
pub mod Stored
pub mod Codes
pub mod Sparse
pub mod Occupied
pub mod Binning
pub mod Binned
pub mod Marking
pub mod Flags
