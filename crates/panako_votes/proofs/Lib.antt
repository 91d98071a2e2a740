-- Laws of the votes of a query.
pub mod Pairs
pub mod Walks
pub mod Fitting
pub mod Listing
