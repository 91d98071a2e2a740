-- Keys over the limit.
pub mod Over
