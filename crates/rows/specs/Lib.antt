-- The references' words.
pub mod References
