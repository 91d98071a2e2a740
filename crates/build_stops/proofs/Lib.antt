-- Laws of keys over a limit, and of their counting and stopping.
pub mod Over
pub mod Counting
pub mod Stops
pub mod Stopping
pub mod Walk
pub mod Few
