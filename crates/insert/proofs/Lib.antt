-- Laws that belong to no one function.
pub mod Times
pub mod Arrivals
pub mod Placed
pub mod References
pub mod Refusals
pub mod Planning
pub mod Admission
pub mod Wrote
pub mod Admitted
