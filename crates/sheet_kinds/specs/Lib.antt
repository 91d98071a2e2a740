-- The kinds of records.
pub mod Kinds
pub mod Bytes
