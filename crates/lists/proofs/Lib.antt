-- Laws of the list definitions.
pub mod Tests
pub mod Every
pub mod Keep
pub mod Ordered
pub mod Place
pub mod Ascending
pub mod Entries
