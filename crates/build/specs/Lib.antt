-- A build's answer.
pub mod Answers
