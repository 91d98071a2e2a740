-- Parts of a slice that are written.
pub mod Parts
