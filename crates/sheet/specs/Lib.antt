pub mod Columns
pub mod Faults
pub mod Field
pub mod Line
pub mod Sheet
pub mod Written
