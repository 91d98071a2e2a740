-- The program sheet: what its reads and turns keep to.
pub mod Reading
