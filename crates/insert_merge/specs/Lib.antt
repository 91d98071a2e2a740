-- The new hashes in order of key and arrival, the keys that pass the limit, and entries merged among others.
pub mod Order
pub mod Merge
