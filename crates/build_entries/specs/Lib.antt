-- Entries and rows as a build lays them down.
pub mod Laid
