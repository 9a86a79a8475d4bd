pub mod Walk
pub mod Totals
pub mod Copies
pub mod Words
