-- The table of a query's refusals.
pub mod Early
