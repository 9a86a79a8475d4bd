pub mod Searches
pub mod Steps
pub mod Laws
pub mod Passing
