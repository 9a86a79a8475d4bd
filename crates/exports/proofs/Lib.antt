pub mod Rests
pub mod Copied
