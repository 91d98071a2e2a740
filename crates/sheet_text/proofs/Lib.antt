pub mod Decimals
pub mod Puts
pub mod Decoding
pub mod Newlines
