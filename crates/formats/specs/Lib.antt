pub mod Indicators
pub mod Faults
pub mod Accepts
pub mod Values
pub mod Words
pub mod Marks
