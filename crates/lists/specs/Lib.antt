-- Lists over tests that compute: those that pass, those in key order, words as entries.
pub mod Lists
pub mod Every
pub mod Keys
pub mod Entries
