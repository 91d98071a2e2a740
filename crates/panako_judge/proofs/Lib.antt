-- Laws that belong to no one function.
pub mod Codes
pub mod Votes
pub mod Order
pub mod Occupied
pub mod Counts
pub mod Binned
pub mod Words
pub mod Lent
pub mod Gates
pub mod Entry
