-- Ranks and the digits of their keys.
pub mod Digits
