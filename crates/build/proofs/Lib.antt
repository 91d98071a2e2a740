-- What a build leaves, from the codes of its hashes.
pub mod Tests
pub mod Order
pub mod Numbered
pub mod Left
pub mod Accepted
