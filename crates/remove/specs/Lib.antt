-- What live_count and remove answer and leave.
pub mod Answers
pub mod Erasing
