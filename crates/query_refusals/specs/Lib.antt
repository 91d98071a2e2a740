-- The refusals of a query that come before its votes are counted.
pub mod Early
