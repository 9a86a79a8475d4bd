pub mod Each
pub mod Searches
pub mod Repeats
pub mod Told
