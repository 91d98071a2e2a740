-- The table of fixed examples.
pub mod Table
