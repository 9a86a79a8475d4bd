pub mod Table
pub mod Sets
pub mod Rows
pub mod Faults
pub mod Values
pub mod Words
pub mod Shipped
