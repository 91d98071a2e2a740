-- The lines of answers.
pub mod Lines
