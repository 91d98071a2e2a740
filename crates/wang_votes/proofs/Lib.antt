-- Laws of the votes of a query.
pub mod Walks
