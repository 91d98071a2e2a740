-- Words in bytes, and texts in a lent buffer.
pub mod Bytes
pub mod Put
