-- What a compaction of entries leaves.
pub mod Retain
