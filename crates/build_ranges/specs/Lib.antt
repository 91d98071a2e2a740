-- Hashes as words that sort by key and, within a key, in arrival order; and their batches.
pub mod Codes
pub mod Batches
